-- A reading is never stale: whoever has applied a message has applied all that anybody had applied when it was sent. Of what two
-- controllers have applied one contains the other, and the message cannot be in what was applied before it was sent. Assumes nothing.
use mathlib.Core.Path.{◌≡◌, refl, ap, ◌∙◌}
use mathlib.Core.Logic.{inl, inr}
use mathlib.Core.Bool.{true, false}
use mathlib.Core.List.{List, [], ◌∷◌, ◌++◌, map-append, append_assoc, foldl}
use Prim.Native.Nat.{ℕ, suc, ◌+◌, ◌-◌, ◌≤◌, ◌<◌}
use native.Mathlib.Omega.{arith}
use native.Mathlib.Decide.{dec_lt}
use lib.ListN.{length, get_or, drop}
use borrow.Author.Tests.{eq-eqb}
use Rattle.lists.proofs.Tests.{or_left, or_right, refuted, contradiction}
use Rattle.lists.proofs.Build.{get_d_tabulate}
use Rattle.model.specs.Tables.{register_count, no_register}
use Rattle.model.specs.declared.Name.{Name}
use Rattle.model.specs.declared.Payload.{Payload}
use Rattle.model.specs.declared.Panel.{Panel}
use Rattle.model.specs.declared.Event.TheVariants.{Send, Handover}
use Rattle.model.specs.declared.LookAnswer.{LookAnswer}
use Rattle.consistency.specs.Entries.{name, has, panel_look, Call, Entry, observed, Said, carried, steps}
use Rattle.consistency.specs.Ledger.{Sent, Ledger, applied, writes, written, newest, date_for, put, moved, sent_names, showing, finishing}
use Rattle.consistency.specs.Demand3.{Head, Heads, version, controllers, entries, moment, Finishes, Begun, Applies, Finished, Within, OrLater, Bears}
use Rattle.consistency.specs.Courses.{table_at}
use Rattle.consistency.proofs.Names.{same_self, has-append, flatten_last, apart_of}
use Rattle.consistency.proofs.Recorded.{Recorded, applied-known, distinct-sent}
use Rattle.consistency.proofs.Grown.{names, names_grown}
use Rattle.consistency.proofs.LedgerRegisters.{write_or_later, write_one}
use Rattle.consistency.proofs.MomentFacts.{comparable, within, look_shows}
use Rattle.consistency.proofs.HandoverFacts.{finishing_own, entry-finishes}
use Rattle.consistency.proofs.CallLists.{version-at, gives_at, look_at, moment-at, moment_past, moment-next, later_at}

module _ (h : Head) (heads : Heads h) (calls : List Call) where
  abbrev n : ℕ
  n = controllers h

  abbrev up_to : ℕ → Ledger
  up_to i = moment h calls i

  recorded : (i : ℕ) → Recorded n (table_at h calls i) (up_to i)
  recorded i = (moment-at h heads calls i).recorded

  -- EVERY accepted handover applies its set, and every accepted report, sync or write begins its message: neither word asks for more

  pub applies_so : (i c o : ℕ) (q : Said) (ms : List Name) (e : Entry) (after : List Entry) (m : Name) → drop i (entries h calls) ≡ e ∷ after
      → steps (version h) e ≡ carried q (Handover c o) ms ∷ [] → has m ms ≡ true → Applies h calls i c m
  applies_so i c o q ms e after m p is x = record { entry = e; after = after; there = p; said = q; owner = o; set = ms; handover = is; member = x }

  pub begins_so : (i c : ℕ) (q : Said) (p : Payload) (ms : List Name) (e : Entry) (after : List Entry) → drop i (entries h calls) ≡ e ∷ after
      → steps (version h) e ≡ carried q (Send c p) ms ∷ []
      → let l = up_to i in
      Begun h calls i (record { name = name c (length (l.log c) + 1); date = date_for l c q; payload = p; said = q })
  unfolding moved
  begins_so i c q p ms e after w is = ap (λ (l : Ledger). l.sent) (moment-next h heads calls i e after w ∙ ap (foldl moved (up_to i)) is)

  -- WHAT WAS APPLIED, by an entry, and from then on

  pub applied_then : {i c : ℕ} {m : Name} → Applies h calls i c m → has m (applied (up_to (suc i)) c) ≡ true
  unfolding moved put
  applied_then {i} {c} {m} a =
      rw (moment-next h heads calls i a.entry a.after a.there, a.handover, eq-eqb c c refl, flatten_last ((up_to i).sets c) a.set, has-append m (applied (up_to i) c) a.set)
      (or_right (has m (applied (up_to i) c)) a.member)

  applied_since : {i c : ℕ} {m : Name} (k : ℕ) → i < k → Applies h calls i c m → has m (applied (up_to k) c) ≡ true
  applied_since {i} {c} {m} k b a = (later_at h heads calls (suc i) k b).grown.kept c m (applied_then a)

  -- WHAT A HANDOVER ANSWERS besides its set

  pub syncs : (i r o : ℕ) (q : Said) (ms : List Name) (e : Entry) (after : List Entry) → drop i (entries h calls) ≡ e ∷ after
      → steps (version h) e ≡ carried q (Handover r o) ms ∷ []
      → let l = up_to (suc i) in
      Finishes e (finishing l.sent ms r) (showing l.sent (applied l r)).sums
  syncs i r o q ms e after p is =
      entry-finishes (moment-at h heads calls i).related.formed r o q ms e (gives_at h heads calls i e after p) (rw (version-at h heads calls i) is)
      (moment_past h heads calls i e after p).recorded

  -- A MESSAGE that entry j begins

  module _ (j : ℕ) (s : Sent) (b : Begun h calls j s) where
    -- it was not sent before
    unsent : (i : ℕ) → i ≤ j → has s.name (sent_names (up_to i)) ≡ false
    unfolding has
    unsent i le = refuted _ (λ e.
        let m = s.name in
        let then : has m (sent_names (up_to j)) ≡ true = ap (has m) (names_grown (later_at h heads calls i j le).grown) ∙ has-append m (sent_names (up_to i)) _ ∙ or_left _ e in
        let all : sent_names (up_to (suc j)) ≡ sent_names (up_to j) ++ (m ∷ []) = ap names b ∙ map-append (λ (x : Sent). x.name) (up_to j).sent (s ∷ []) in
        contradiction (or_left _ (same_self m)) (apart_of (sent_names (up_to j)) (m ∷ []) (rw all at (distinct-sent (recorded (suc j)))) m then))

    -- who has applied it has done so since
    since : (k d : ℕ) → has s.name (applied (up_to k) d) ≡ true → j < k
    since k d e = elim (dec_lt j k) [
      | yes l ↦ l
      | no l ↦ contradiction (applied-known (recorded k) d s.name e) (unsent k (omega arith))
    ]

    -- and where somebody has, it is among the messages sent
    pub record Placed (k : ℕ) : Type 0 where
      pub before : List Sent
      pub after : List Sent
      pub is : (up_to k).sent ≡ before ++ (s ∷ after)

    placed : (k d : ℕ) → has s.name (applied (up_to k) d) ≡ true → Placed k
    placed k d e =
        let g = (later_at h heads calls (suc j) k (since k d e)).grown in
        record { before = (up_to j).sent; after = g.more; is = g.is ∙ (ap (λ (xs : List Sent). xs ++ g.more) b ∙ append_assoc (up_to j).sent (s ∷ []) g.more) }

    -- WHOEVER HAS APPLIED IT has applied all that anybody had applied before it was begun
    pub never_stale : (i k c d : ℕ) → i ≤ j → has s.name (applied (up_to k) d) ≡ true → Within (up_to i) c (up_to k) d
    never_stale i k c d le e =
        let w = later_at h heads calls i k (omega (arith, le, since k d e)) in
        within w c d (elim (comparable w c d) [
          | inl f ↦ contradiction (applied-known (recorded i) c s.name (f s.name e)) (unsent i le)
          | inr f ↦ f
        ])

    -- so of an entry before j, and of one that applies it and whatever comes then
    pub included : {i k c d : ℕ} {m : Name} (later : ℕ) → Applies h calls i c m → i < j → Applies h calls k d s.name → k < later
        → has m (applied (up_to later) d) ≡ true
    included {i} {k} {c} {d} {m} later f le g r = (never_stale (suc i) later c d le (applied_since later r g)).messages m (applied_then f)

    -- if it is a sync and entry k finishes it, that entry says so and gives the sums
    pub answered_so : (k : ℕ) → s.said.kind ≡ 2 → (f : Finished h calls k s.name)
        → let l = up_to (suc k) in
        Finishes f.entry true (showing l.sent (applied l s.name.sender)).sums
    answered_so k z f =
        let p = placed (suc k) s.name.sender (applied_then f) in
        let own : finishing (up_to (suc k)).sent f.set s.name.sender ≡ true = rw p.is (finishing_own p.before s p.after f.set z f.member) in
        rw own at (syncs k s.name.sender f.owner f.said f.set f.entry f.after f.there f.handover)

    -- if it is a write, whoever has applied it has that register as it says, or a later one
    pub bears : (k c r : ℕ) → writes r s ≡ true → has s.name (applied (up_to k) c) ≡ true → Bears h calls k c r (written s)
    unfolding showing
    bears k c r w e = record { held = held; shown = λ a after q z. rw (shows a after q z) held }
      where
        there : Placed k
        there = placed k c e

        held : OrLater (written s) (newest r (up_to k).sent (applied (up_to k) c))
        held = write_or_later (recorded k) there.before s there.after there.is (applied (up_to k) c) e r w

        shows : (a : LookAnswer) (after : List Entry) → drop k (entries h calls) ≡ observed (panel_look c) a ∷ after → a.refusal ≡ 0
            → get_or a.panel.registers (r - 1) no_register ≡ newest r (up_to k).sent (applied (up_to k) c)
        shows a after q z =
            let d = write_one (recorded k) there.before s there.after there.is r w in
            ap (λ (y : Panel). get_or y.registers (r - 1) no_register) (look_shows (moment-at h heads calls k) c a (look_at h heads calls k c a after q) z)
            ∙ get_d_tabulate register_count _ no_register (r - 1) (omega (arith, d.0, d.1))
            ∙ ap (λ x. newest x (up_to k).sent (applied (up_to k) c)) (omega (arith, d.0))
