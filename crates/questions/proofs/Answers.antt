-- The number that a list of questions gives, from the answers as a function's tests have them. Assumes nothing.
use mathlib.Core.Path.{◌≡◌, refl, sym, ◌∙◌}
use mathlib.Core.Logic.{◌≢◌}
use mathlib.Core.Bool.{Bool, true, false, not, cond}
use mathlib.Core.List.{List, [], ◌∷◌, ◌++◌}
use Prim.Native.Nat.{ℕ}
use borrow.Author.Tests.{not-true, not-false}
use Rattle.model.specs.Refusals.{refusal_number}
use Rattle.model.specs.Questions.{Question, first_no, payload_questions}
use Rattle.model.specs.declared.Payload.{Payload}
use Rattle.model.specs.declared.refusal.Refusal.{Refusal}
use Rattle.model.proofs.Allowed.{Numbered, none, more, no_no}
use Rattle.model.proofs.Refused.{refusal_is}

-- an answer r to what b says, as the test `!r` came out

module _ {r b : Bool} (e : r ≡ b) where
  pub seen_no : not r ≡ true → b ≡ false
  seen_no t = sym e ∙ not-true r t

  pub seen_yes : not r ≡ false → b ≡ true
  seen_yes t = sym e ∙ not-false r t

-- TWO LISTS OF QUESTIONS, one after the other

pub first-refused : (qs rs : List Question) → first_no qs ≢ 0 → first_no (qs ++ rs) ≡ first_no qs
unfolding first_no
first-refused [] rs n = absurd (n refl)
first-refused (q ∷ qs) rs n = go q.yes n (first-refused qs rs)
  where
    go : (b : Bool) → cond b (first_no qs) q.number ≢ 0 → (first_no qs ≢ 0 → first_no (qs ++ rs) ≡ first_no qs)
        → cond b (first_no (qs ++ rs)) q.number ≡ cond b (first_no qs) q.number
    go true m f = f m
    go false m f = refl

pub first_passed : {qs : List Question} → Numbered qs → (rs : List Question) → first_no qs ≡ 0 → first_no (qs ++ rs) ≡ first_no rs
unfolding first_no
first_passed none rs e = refl
first_passed (more {k = k} {b = b} {qs = qs} n) rs e =
    let q = no_no k b qs e in
    rw q.0 (first_passed n rs q.1)

-- a refusal by the first list is that of both
pub refused_first : (r : Refusal) (qs rs : List Question) → refusal_number r ≡ first_no qs → refusal_number r ≡ first_no (qs ++ rs)
refused_first r qs rs e = e ∙ sym (first-refused qs rs (λ z. refusal_is r (e ∙ z)))

pub payload_passed : (v : ℕ) (p : Payload) (rs : List Question) → 0 ≡ first_no (payload_questions v p) → first_no (payload_questions v p ++ rs) ≡ first_no rs
unfolding payload_questions
payload_passed v p rs e = first_passed (more (more (more none))) rs (sym e)
