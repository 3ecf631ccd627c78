-- A read goes on where the last one ended, in the buffer as in the input. Where it was interrupted, both stay as they were.
use Rattle.std.proofs.Common.{◌≡◌, ℕ, ◌+◌, ◌≤◌, List, ◌++◌, rules, length, take, sym, ap, ◌∙◌, le_refl, length-take-le}
use Rattle.std.proofs.Math.Seq.{take-append-add}
use Rattle.std.proofs.lemmas.List.{take-append-le}
use Rattle.std.proofs.lemmas.Slice.{take-put_mid_below}
use Rattle.std.proofs.KnownBytes.{Consumes-trans, Consumes-kept}
use borrow.Rule.Slice.PartMut.{put_mid, post_of}
use Rattle.panels.proofs.read_full.Goals as goal
use Rattle.panels.proofs.read_full.Goals.{in-Ok, in-Err}

-- n elements of a part that was written from place a on, and all that stand before it
take-written : (a k n : ℕ) (xs ys : List ℕ) → a ≤ length xs → n ≤ length ys → take (a + n) (put_mid a k xs ys) ≡ take a xs ++ take n ys
take-written a k n xs ys h l =
    ap (λ (m : ℕ). take (m + n) (put_mid a k xs ys)) (sym (length-take-le a xs h))
    ∙ take-append-add (take a xs) (ys ++ post_of a k xs) n
    ∙ ap (λ (part : List ℕ). take a xs ++ part) (take-append-le n ys (post_of a k xs) l)

pub loop-preserved : goal.loop-preserved
loop-preserved g c =
    let part = c.read.new.buf in
    let within : c.loop.done ≤ length c.loop.buffer = c.loop.invariant.1 in
    elim c.match-read.branch [
      | in-Ok w ↦ (
        search rules,
        search rules,
        rw (w.done-is, take-written _ _ _ c.loop.buffer part within w.in-Ok.ensures.bound.0) (Consumes-trans _ _ _ _ _ c.loop.invariant.2 w.in-Ok.ensures.bytes.0),
      )
      | in-Err w ↦ (
        search rules,
        search rules,
        rw (w.done-is, take-put_mid_below _ _ c.loop.buffer part _ (le_refl _) within) (Consumes-kept _ _ _ _ c.loop.invariant.2 w.in-Err.ensures.bytes),
      )
    ]
