-- Marks that are stored, and changed as lines 7 to 10 of Algorithm 1 change them, are the marks that follow from positions and reads.
-- Assumes nothing.
use Prim.Native.Nat.{ℕ, suc, ◌<◌}
use mathlib.Core.Bool.{Bool, true, false, ◌||◌}
use mathlib.Core.Path.{◌≡◌, refl, sym, ap, ◌∙◌}
use mathlib.Core.Logic.{◌≢◌}
use native.Mathlib.Omega.{arith}
use native.Mathlib.Decide.{ℕ_discrete, dec_lt}
use Rattle.lists.proofs.Tests.{or-false, contradiction}
use Rattle.broadcast.specs.State.{System, State, append, scd_deliver, crash, forward, receive}
use Rattle.broadcast.specs.Delivery.{mark}
use Rattle.broadcast.specs.Events.{MayBroadcast, MayRead}
use Rattle.broadcast.proofs.Updates.{update_case}
use Rattle.broadcast.proofs.Marks.{mark-lacking, append_mark, broadcast_mark, unread_mark, read_mark}
use Rattle.broadcast.proofs.Invariant.{Invariant, read_length}
use Rattle.broadcast.proofs.Legal.{forward_case, receive_delivered, next_present}
use Rattle.broadcast.proofs.Reachable.{All, forwarded}

-- K j f is the mark that process i stores in slot j for f, counted from 1, so that `suc top` is absent; slot j holds the message `name j`
pub record Stored (k : System) (slots : ℕ) (name : ℕ → ℕ) (K : ℕ → ℕ → ℕ) (s : State) (i : ℕ) : Type 0 where
  pub stored : (j : ℕ) → j < slots → s.delivered i (name j) ≡ false → (f : ℕ) → f < k.n → K j f ≡ suc (mark k s i (name j) f)

module _ (k : System) (s : State) (a : All k s) (r o m : ℕ) (w : MayRead k s r o m) where
  open k use {n}

  abbrev v : Invariant k s
  v = a.invariant

  abbrev S : State
  S = receive k s r o m

  forward-mark : (i y f : ℕ) → mark k (forward k s r m) i y f ≡ mark k s i y f
  forward-mark i y f = forward_case k (λ u. mark k u i y f ≡ mark k s i y f) s r m (λ _. refl)
      (λ h. append_mark k s r m (omega (arith, v.logs.position_top r m)) i y f (read_length k s v i f)
      (λ _ _ _ e. omega (arith, rw e at (v.logs.sent o m (next_present k s v r o m w)))))

  receive-mark : (i y f : ℕ) → (i ≡ r → y ≡ m → f ≡ o → ⊥) → mark k S i y f ≡ mark k s i y f
  receive-mark i y f d = unread_mark k (forward k s r m) r o i y f (λ e b q. d e (same q) b) ∙ forward-mark i y f
    where
      same : (forward k s r m).position o y ≡ (forward k s r m).read r o → y ≡ m
      same q = let g = forwarded k s a r o m w in let z = g.invariant in
          z.logs.distinct o y m (omega (arith, z.readable_length o, z.logs.length_top o)) (q ∙ sym g.next)

  receive-mark_new : mark k S r m o ≡ s.read r o
  unfolding append
  receive-mark_new = let g = forwarded k s a r o m w in
      read_mark k (forward k s r m) r o m g.next ∙ g.next ∙ forward_case k (λ u. u.read r o ≡ s.read r o) s r m (λ _. refl) (λ _. refl)

  module _ (slots : ℕ) (name : ℕ → ℕ) (K : ℕ → ℕ → ℕ) where
    undelivered : (i j : ℕ) → S.delivered i (name j) ≡ false → s.delivered i (name j) ≡ false
    undelivered i j h = rw (receive_delivered k s r o m) at h

    -- a message delivered before is passed over
    pub passed_stored : s.delivered r m ≡ true → Stored k slots name K s r → Stored k slots name K S r
    passed_stored t q = record {
      stored = λ j l h f b. let h' = undelivered r j h in
          q.stored j l h' f b ∙ ap suc (sym (receive-mark r (name j) f (λ _ e _. contradiction (rw (sym e) at t) h')));
    }

    -- any other is marked, pending before or not: the cell of slot g and process o alone changes
    pub marked_stored : (g : ℕ) (K' : ℕ → ℕ → ℕ) → name g ≡ m → ((j : ℕ) → j < slots → name j ≡ m → j ≡ g) → K' g o ≡ suc (s.read r o)
        → ((j f : ℕ) → j < slots → f < n → (j ≡ g → f ≡ o → ⊥) → K' j f ≡ K j f) → Stored k slots name K s r → Stored k slots name K' S r
    marked_stored g K' e only new same q = record { stored = λ j l h f b. go j l (undelivered r j h) f b (ℕ_discrete j g) (ℕ_discrete f o) }
      where
        old : (j : ℕ) → j < slots → s.delivered r (name j) ≡ false → (f : ℕ) → f < n → (j ≡ g → f ≡ o → ⊥) → K' j f ≡ suc (mark k S r (name j) f)
        old j l h f b d = same j f l b d ∙ q.stored j l h f b ∙ ap suc (sym (receive-mark r (name j) f (λ _ z y. d (only j l z) y)))

        go : (j : ℕ) → j < slots → s.delivered r (name j) ≡ false → (f : ℕ) → f < n → Dec (j ≡ g) → Dec (f ≡ o) → K' j f ≡ suc (mark k S r (name j) f)
        go j l h f b (yes x) (yes y) = rw (x, y, e) (new ∙ ap suc (sym receive-mark_new))
        go j l h f b (yes x) (no y) = old j l h f b (λ _ z. y z)
        go j l h f b (no x) y = old j l h f b (λ z _. x z)

module _ (k : System) (slots : ℕ) (name : ℕ → ℕ) (K K' : ℕ → ℕ → ℕ) (s : State) (i : ℕ) where
  open k use {n, top}

  -- a delivery changes nothing in the slots of other messages
  pub deliver-stored : (r : ℕ) (t : ℕ → Bool) → ((j f : ℕ) → j < slots → f < n → (scd_deliver s r t).delivered i (name j) ≡ false → K' j f ≡ K j f)
      → Stored k slots name K s i → Stored k slots name K' (scd_deliver s r t) i
  unfolding scd_deliver mark
  deliver-stored r t same q = record { stored = λ j l h f b. same j f l b h ∙ q.stored j l (before (name j) h) f b }
    where
      before : (m : ℕ) → (scd_deliver s r t).delivered i m ≡ false → s.delivered i m ≡ false
      before m = update_case (λ D. D m ≡ false → s.delivered i m ≡ false) s.delivered r (λ m. s.delivered r m || t m) i
          (λ e h. rw e (or-false (s.delivered r m) (t m) h).0) (λ _ h. h)

  pub crash-stored : (c l : ℕ) → Stored k slots name K s i → Stored k slots name K (crash s c l) i
  unfolding crash mark
  crash-stored c l q = record { stored = q.stored }

  -- a message sent: its slot is new, with its sender's own mark there and no other
  module _ (v : Invariant k s) (c m : ℕ) (w : MayBroadcast k s c m) where
    nowhere : (f : ℕ) → s.position f m ≡ top
    nowhere f = elim (dec_lt (s.position f m) top) [
      | yes h ↦ absurd (omega (arith, rw w.own at (v.logs.sent f m h)))
      | no h ↦ omega (arith, v.logs.position_top f m)
    ]

    pub sent-stored : name slots ≡ m → ((j : ℕ) → j < slots → name j ≢ m) → ((j f : ℕ) → j < slots → f < n → K' j f ≡ K j f)
        → (i ≡ c → K' slots c ≡ suc (s.length c)) → ((f : ℕ) → f < n → (i ≡ c → f ≡ c → ⊥) → K' slots f ≡ suc top)
        → Stored k slots name K s i → Stored k (suc slots) name K' (append s c m) i
    unfolding append
    sent-stored e new same mine absent q = record { stored = λ j l h f b. go j l h f b (ℕ_discrete j slots) }
      where
        unmarked : (f : ℕ) → (i ≡ c → f ≡ c → ⊥) → mark k (append s c m) i m f ≡ top
        unmarked f d = append_mark k s c m w.new i m f (read_length k s v i f) (λ x _ y _. d x y) ∙ mark-lacking k s i m f (nowhere f)

        last : (f : ℕ) → f < n → Dec (i ≡ c) → Dec (f ≡ c) → K' slots f ≡ suc (mark k (append s c m) i m f)
        last f b (yes x) (yes y) = rw (x, y) (mine x ∙ ap suc (sym (broadcast_mark k s c m w.new w.own)))
        last f b (yes x) (no y) = absent f b (λ _ z. y z) ∙ ap suc (sym (unmarked f (λ _ z. y z)))
        last f b (no x) y = absent f b (λ z _. x z) ∙ ap suc (sym (unmarked f (λ z _. x z)))

        go : (j : ℕ) → j < suc slots → s.delivered i (name j) ≡ false → (f : ℕ) → f < n → Dec (j ≡ slots) → K' j f ≡ suc (mark k (append s c m) i (name j) f)
        go j l h f b (yes d) = rw (d, e) (last f b (ℕ_discrete i c) (ℕ_discrete f c))
        go j l h f b (no d) =
            let g : j < slots = omega arith in
            same j f g b ∙ q.stored j g h f b ∙ ap suc (sym (append_mark k s c m w.new i (name j) f (read_length k s v i f) (λ _ z _ _. new j g z)))
