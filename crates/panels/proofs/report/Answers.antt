-- `report` writes what the program prints: the lines of the run, the header line before them and the end line after them, or the end
-- line alone.
use Rattle.std.proofs.Common.{◌≡◌, List, ℕ, false, length, take, arith, sym, ◌∙◌}
use borrow.Rule.Slice.PartMut.{mid_of, put_mid, same_len_mid}
use Rattle.std.specs.Prelude.{Result, Ok}
use Rattle.model.specs.Tables.{scratch_size}
use Rattle.model.specs.Records.{byte}
use Rattle.model.specs.Runs.{header}
use Rattle.model.specs.declared.RunAnswer.{RunAnswer}
use Rattle.model.specs.declared.refusal.Refusal.{Refusal}
use Rattle.files.specs.FileRun.{Runs}
use Rattle.listing.specs.Writing.{Wrote}
use Rattle.panels.specs.Printed.{header_size, listing_size, text_size}
use Rattle.panels.proofs.Printing.{line_ok, early, early_refused, Passed, late_passed, Holds, has_lines, header_fits, has-header, footer_fits, footer_short, has_end, alone_fits, only_end}
use Rattle.panels.proofs.report.Goals as goal

-- the text with the lines in it, and with the header line before them
record Listed (s l t : List ℕ) (r : RunAnswer) : Type 0 where
  passed : Passed s
  holds : Holds (take header_size l) s l t r

record Headed (s l u : List ℕ) (r : RunAnswer) : Type 0 where
  passed : Passed s
  holds : Holds (header (byte s 1)) s l u r

module _ {s l w m z : List ℕ} {r : RunAnswer} (y : false ≡ early r.refusal) (ll : length l ≡ text_size) (lw : length w ≡ scratch_size)
    (ran : Runs s (mid_of header_size listing_size l) w r m z) (same : length m ≡ length (mid_of header_size listing_size l)) where
  listed : Listed s l (put_mid header_size listing_size l m) r
  listed =
      let p = late_passed s _ w r ran.outcome (sym y) in
      record { passed = p; holds = has_lines s l w m listing_size r p.asked ll lw (omega arith) ran.outcome ran.listed same }

  headed : {u : List ℕ} {q : Result ℕ Refusal} {n k : ℕ} → n ≡ byte s 1 → Wrote (header n) (put_mid header_size listing_size l m) u q → q ≡ Ok k → Headed s l u r
  headed en wrote ok = record { passed = listed.passed; holds = has-header s l _ _ r _ _ en ll listed.passed listed.holds (rw ok at wrote) }

pub unwrap-requires : goal.unwrap-requires
unwrap-requires c =
    let size = same_len_mid header_size listing_size c.args.text.now c.run-run.new.listing c.run-run.auto.listing ∙ c.requires.0 in
    line_ok _ (alone_fits c.args.file.now c.run-run.result (omega arith) (omega arith) _ size) c.put_footer.ensures

pub returns-then-is_early : goal.returns-then-is_early
returns-then-is_early c =
    let size = same_len_mid header_size listing_size c.args.text.now c.run-run.new.listing c.run-run.auto.listing ∙ c.requires.0 in
    let refused = early_refused _ _ _ _ c.run-run.ensures.outcome (sym c.if-is_early.ensures) in
    only_end _ c.run-run.result (omega arith) (omega arith) _ size refused _ _ (rw c.unwrap.ensures at c.put_footer.ensures)

pub unwrap-requires-2 : goal.unwrap-requires-2
unwrap-requires-2 c =
    let h = listed c.if-is_early.ensures c.requires.0 c.requires.1 c.run-run.ensures c.run-run.auto.listing in
    line_ok _ (header_fits _ _ _ _ _ c.byte_at.ensures h.passed h.holds) c.put_header.ensures

pub overflow_add-end : goal.overflow_add-end
overflow_add-end c =
    let h = listed c.if-is_early.ensures c.requires.0 c.requires.1 c.run-run.ensures c.run-run.auto.listing in
    omega (arith, h.holds.short)

pub slice_bounds-put_footer-count : goal.slice_bounds-put_footer-count
slice_bounds-put_footer-count c =
    let h = headed c.if-is_early.ensures c.requires.0 c.requires.1 c.run-run.ensures c.run-run.auto.listing c.byte_at.ensures c.put_header.ensures c.unwrap-2.ensures in
    omega (arith, h.holds.short, h.holds.size)

pub slice_bounds-put_footer-start : goal.slice_bounds-put_footer-start
slice_bounds-put_footer-start c =
    let h = headed c.if-is_early.ensures c.requires.0 c.requires.1 c.run-run.ensures c.run-run.auto.listing c.byte_at.ensures c.put_header.ensures c.unwrap-2.ensures in
    omega (arith, h.holds.short, h.holds.size)

pub unwrap-tail-requires : goal.unwrap-tail-requires
unwrap-tail-requires c =
    let h = headed c.if-is_early.ensures c.requires.0 c.requires.1 c.run-run.ensures c.run-run.auto.listing c.byte_at.ensures c.put_header.ensures c.unwrap-2.ensures in
    line_ok _ (footer_fits _ _ (omega arith) (omega arith) _ _ h.holds) c.put_footer-2.ensures

pub overflow_add-result : goal.overflow_add-result
overflow_add-result c =
    let h = headed c.if-is_early.ensures c.requires.0 c.requires.1 c.run-run.ensures c.run-run.auto.listing c.byte_at.ensures c.put_header.ensures c.unwrap-2.ensures in
    omega (arith, h.holds.short, footer_short _ c.run-run.result (omega arith) (omega arith) _ _ h.holds _ _ (rw c.unwrap-tail.ensures at c.put_footer-2.ensures))

pub returns : goal.returns
returns c =
    let h = headed c.if-is_early.ensures c.requires.0 c.requires.1 c.run-run.ensures c.run-run.auto.listing c.byte_at.ensures c.put_header.ensures c.unwrap-2.ensures in
    has_end _ c.run-run.result (omega arith) (omega arith) _ _ h.holds _ _ (rw c.unwrap-tail.ensures at c.put_footer-2.ensures) h.passed.asked
