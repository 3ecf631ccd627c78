-- The kinds of records, by their numbers.
use Rattle.std.specs.Prelude.{ℕ, ◌≡◌, false, ◌&&◌, Result, MatchResult, leb, ltb}
use Rattle.model.specs.Tables.{report_kind, sync_kind, write_kind, last_kind}
use Rattle.model.specs.declared.refusal.Refusal as refusal
use Rattle.model.specs.declared.Kind.{Kind}
use Rattle.model.specs.declared.Kind.TheVariants.{Report, Sync, Handover, Stop, Read, Write}

abbrev pub kind_number : Kind → ℕ
kind_number Report = report_kind
kind_number Sync = sync_kind
kind_number Handover = 3
kind_number Stop = 4
kind_number Read = 5
kind_number Write = write_kind

-- the kind with this number, or refusal 6 where there is none
abbrev pub KindOf : ℕ → Result Kind refusal.Refusal → Type 0
KindOf k r = MatchResult r (λ kind. kind_number kind ≡ k) (λ e. (e ≡ refusal.TheVariants.Kind) × ((ltb 0 k && leb k last_kind) ≡ false))
