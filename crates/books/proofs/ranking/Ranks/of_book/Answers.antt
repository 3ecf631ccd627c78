-- `of_book` gives the messages of a book the ranks of their sets.
use Rattle.std.proofs.Common.{length, refl, sym, ap, arith, ◌∙◌, inl}
use Rattle.std.specs.declared.iter.Enumerate.{Enumerate}
use Rattle.model.specs.Books.{names, book_in}
use Rattle.books.specs.declared.layout.Sets.{Sets}
use Rattle.books.proofs.Placed.{book_end, book_stop}
use Rattle.books.proofs.Laid.{sets_few}
use Rattle.books.proofs.ranking.Ranks.of_book.Goals as goal

-- the sets are no more than their bytes
pub loop-rank-init-derived : goal.loop-rank-init-derived
loop-rank-init-derived c =
    let e = c.into_iter-rank-iterator.ensures.into_iter_gives in
    let k = ap (λ (r : Enumerate Sets). r.count) e ∙ c.enumerate-rank-items.ensures.count in
    let n = ap (λ (r : Enumerate Sets). length (book_in r.iter.bytes.now)) e ∙ ap (λ (b : Sets). length (book_in b.bytes.now)) c.enumerate-rank-items.ensures.source in
    ((tt, tt, inl (omega (arith, k, n, sets_few c.args.book.bytes.now, c.args.book.laid.short))), tt)

pub returns-then-not-place : goal.returns-then-not-place
returns-then-not-place c =
    let h = c.in-Some.ensures.steps in
    book_stop _ c.loop-rank.rank-iterator.count (book_in c.loop-rank.rank-iterator.iter.bytes.now) c.loop-rank.ranks.0 c.loop-rank.invariant.placed
    (names c.in-Some.set.bytes.now) (book_in c.next.new.self.iter.bytes.now) h.0 c.place.result c.place.new.self.0 (rw (sym h.1) c.place.ensures) c.if-not-place.true

pub returns : goal.returns
returns c =
    book_end _ c.loop-rank.rank-iterator.count (book_in c.loop-rank.rank-iterator.iter.bytes.now) c.loop-rank.ranks.0 c.loop-rank.invariant.placed c.in-None.ensures.steps.0.0
    c.loop-rank.ranks refl
