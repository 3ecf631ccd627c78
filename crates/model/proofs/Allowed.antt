-- What a file, an event or a line that no question refuses may rely on: a record of facts for each kind of event. Assumes nothing.
use mathlib.Core.Path.{◌≡◌, refl}
use mathlib.Core.Logic.{◌≢◌}
use mathlib.Core.Bool.{Bool, true, false, not, ◌&&◌, cond, true≢false}
use mathlib.Core.List.{List, [], ◌∷◌, ◌++◌}
use Prim.Native.Nat.{ℕ, suc, ◌≤◌, ◌<◌}
use native.Mathlib.Omega.{arith}
use lib.ListN.{length}
use lib.Dec.{eqb, leb, ltb}
use borrow.Author.Tests.{ltb-true, ltb-false, leb-true, eqb-true, eqb-false, eq-eqb, not-true}
use Rattle.lists.specs.Below.{count}
use Rattle.lists.proofs.Tests.{cond_case, and_left, and_right, both}
use Rattle.lists.proofs.Below.{count_pos}
use Rattle.model.specs.Tables.{seats, capacity, sync, write, yes?, at, message, place, held, messages_of}
use Rattle.model.specs.Events.{subject}
use Rattle.model.specs.Records.{byte, kind, word, long, report_class, reported, decode}
use Rattle.model.specs.Fair.{named, fair_amount, fair_class, fair_register}
use Rattle.model.specs.WellFormed.{well_formed}
use Rattle.model.specs.Questions.{Question, ask, first_no, fresh_questions, file_questions, lent_table, look_questions, kind_questions, record_questions, own_pending, unread, keepable, payload_questions, sender_questions, send_questions, handover_questions, stop_questions, read_questions, event_questions, command_questions, scratch_room, step_questions, line_fits, FreshAllowed}
use Rattle.model.specs.declared.Payload.{Payload}
use Rattle.model.specs.declared.Table.{Table}
use Rattle.model.specs.declared.Event.{Event}
use Rattle.model.specs.declared.Event.TheVariants.{Send, Handover, Stop}
use Rattle.model.specs.declared.Command.{Command}
use Rattle.model.specs.declared.Command.TheVariants.{Act, Read}
use Rattle.model.specs.Facts.{Among}
use Rattle.model.proofs.Tested.{named-at, named_of, all_named}

-- no no: the first answer was yes, and no later answer is a no
pub no_no : (k : ℕ) (b : Bool) (qs : List Question) → first_no (ask (suc k) b ∷ qs) ≡ 0 → (b ≡ true) × (first_no qs ≡ 0)
unfolding first_no
no_no k true qs e = (refl, e)
no_no k false qs e = absurd (omega (arith, e))

-- a table that may be looked at, and a controller at which
pub look_asked : (t : Table) (c : ℕ) → first_no (look_questions t c) ≡ 0 → (well_formed t ≡ true) × Among t.n c
unfolding look_questions lent_table
look_asked t c e =
    let q = no_no 3 (well_formed t) _ e in
    (q.0, named-at t c (no_no 7 (named t.n c) [] q.1).0)

pub look_passed : (t : Table) (c : ℕ) → well_formed t ≡ true → Among t.n c → first_no (look_questions t c) ≡ 0
unfolding first_no look_questions lent_table
look_passed t c w h = rw (w, named_of t c h) refl

-- no question has the number 0, which stands for no refusal
pub data Numbered : List Question → Type 0 where
  none : Numbered []
  more : {k : ℕ} {b : Bool} {qs : List Question} → Numbered qs → Numbered (ask (suc k) b ∷ qs)

pub no_no_append : {qs : List Question} → Numbered qs → (rs : List Question) → first_no (qs ++ rs) ≡ 0 → (first_no qs ≡ 0) × (first_no rs ≡ 0)
unfolding first_no
no_no_append none rs e = (refl, e)
no_no_append (more {k = k} {b = b} {qs = qs} n) rs e =
    let q = no_no k b (qs ++ rs) e in
    let r = no_no_append n rs q.1 in
    (rw q.0 r.0, r.1)

pub event_numbered : (t : Table) (e : Event) → Numbered (event_questions t e)
unfolding event_questions payload_questions sender_questions send_questions handover_questions stop_questions
event_numbered t (Send c p) = more (more (more (more (more (more (more (more none)))))))
event_numbered t (Handover r o) = more (more (more none))
event_numbered t (Stop c k) = more (more (more none))

pub command_numbered : (t : Table) (a : Command) → Numbered (command_questions t a)
unfolding command_questions read_questions
command_numbered t (Act e) = event_numbered t e
command_numbered t (Read c) = more (more (more none))

pub record_numbered : (v : ℕ) (s : List ℕ) → Numbered (record_questions v s)
unfolding record_questions kind_questions
record_numbered v s = more (more (more none))

-- the questions of a step: of the record, of what it asks for, and of the scratch area
pub step_asked : (t : Table) (s : List ℕ) (room : ℕ) → first_no (step_questions t s room) ≡ 0
    → (first_no (record_questions t.version s) ≡ 0) × (first_no (command_questions t (decode t.version s)) ≡ 0) × (first_no (scratch_room room ∷ []) ≡ 0)
unfolding step_questions
step_asked t s room e =
    let d = decode t.version s in
    let q = no_no_append (record_numbered t.version s) (command_questions t d ++ (scratch_room room ∷ [])) e in
    let r = no_no_append (command_numbered t d) (scratch_room room ∷ []) q.1 in
    (q.0, r.0, r.1)

-- a step's number, and question 16 of its line
pub line_asked : (k line left : ℕ) → first_no (ask k (eqb k 0) ∷ line_fits line left ∷ []) ≡ 0 → (k ≡ 0) × (line ≤ left)
unfolding first_no line_fits
line_asked k line left =
    cond_case (λ n. n ≡ 0 → (k ≡ 0) × (line ≤ left)) (eqb k 0) _ _
    (λ q v. (eqb-true k 0 q, leb-true line left (no_no 15 (leb line left) [] v).0)) (λ q v. absurd (eqb-false k 0 q v))

pub fresh_allowed : (v n : ℕ) → first_no (fresh_questions v n) ≡ 0 → FreshAllowed v n
unfolding fresh_questions
fresh_allowed v n e =
    let q2 = no_no _ _ _ e in
    let q3 = (no_no _ _ _ q2.1).0 in
    record { version = q2.0; some = ltb-true 0 n (and_left (ltb 0 n) (leb n seats) q3); few = leb-true n seats (and_right (ltb 0 n) (leb n seats) q3) }

pub record FileAllowed (s : List ℕ) : Type 0 where
  pub long : 2 ≤ length s
  pub short : length s ≤ 65535
  pub fresh : FreshAllowed (byte s 0) (byte s 1)

pub file_allowed : (s : List ℕ) → first_no (file_questions s) ≡ 0 → FileAllowed s
unfolding file_questions
file_allowed s e =
    let q1 = no_no 0 (leb 2 (length s) && leb (length s) 65535) _ e in
    record {
      long = leb-true 2 (length s) (and_left (leb 2 (length s)) (leb (length s) 65535) q1.0);
      short = leb-true (length s) 65535 (and_right (leb 2 (length s)) (leb (length s) 65535) q1.0);
      fresh = fresh_allowed (byte s 0) (byte s 1) q1.1;
    }

pub record SendAllowed (t : Table) (c : ℕ) (p : Payload) : Type 0 where
  pub sender : Among t.n c
  pub amount : fair_amount p ≡ true
  pub class : fair_class t.version p ≡ true
  pub register : fair_register p ≡ true
  pub running : yes? (at t c).running ≡ true
  -- a write waits for whatever its sender has pending
  pub write_waits : p.kind ≡ 6 → (s : ℕ) → s < t.count → held (at t c) s ≡ true → (message t s).sender ≡ c → ⊥
  pub room : t.count < capacity

pub record HandoverAllowed (t : Table) (r o : ℕ) : Type 0 where
  pub receiver : Among t.n r
  pub owner : Among t.n o
  pub running : yes? (at t r).running ≡ true
  pub unread : place (at t r) o < (at t o).length

pub record StopAllowed (t : Table) (c k : ℕ) : Type 0 where
  pub controller : Among t.n c
  pub running : yes? (at t c).running ≡ true
  pub within : k ≤ (at t c).length
  pub read_kept : (r : ℕ) → Among t.n r → place (at t r) c ≤ k

-- nobody's own message is pending where none is counted
none_own : (t : Table) (c : ℕ) → not (own_pending (messages_of t) (at t c).pending c) ≡ true → (s : ℕ) → s < t.count → held (at t c) s ≡ true → (message t s).sender ≡ c → ⊥
unfolding own_pending
none_own t c e s h p q = omega (
  arith,
  count_pos t.count (λ s. held (at t c) s && eqb (message t s).sender c) s h (both p (eq-eqb (message t s).sender c q)),
  ltb-false 0 (count t.count (λ s. held (at t c) s && eqb (message t s).sender c)) (not-true (own_pending (messages_of t) (at t c).pending c) e),
)

pub send_allowed : (t : Table) (c : ℕ) (p : Payload) → first_no (event_questions t (Send c p)) ≡ 0 → SendAllowed t c p
unfolding event_questions payload_questions sender_questions send_questions
send_allowed t c p e =
    let q8 = no_no _ _ _ e in
    let q9 = no_no _ _ _ q8.1 in
    let q17 = no_no _ _ _ q9.1 in
    let q19 = no_no _ _ _ q17.1 in
    let q10 = no_no _ _ _ q19.1 in
    let q11 = no_no _ _ _ q10.1 in
    let q12 = no_no _ _ _ q11.1 in
    record {
      sender = named-at t c q8.0;
      amount = q9.0;
      class = q17.0;
      register = q19.0;
      running = q10.0;
      write_waits = λ k. none_own t c (rw k at q11.0);
      room = ltb-true t.count capacity q12.0;
    }

pub handover_allowed : (t : Table) (r o : ℕ) → first_no (event_questions t (Handover r o)) ≡ 0 → HandoverAllowed t r o
unfolding event_questions handover_questions unread
handover_allowed t r o e =
    let q8 = no_no _ _ _ e in
    let q10 = no_no _ _ _ q8.1 in
    let q13 = no_no _ _ _ q10.1 in
    record {
      receiver = named-at t r (and_left _ _ q8.0);
      owner = named-at t o (and_right (named t.n r) _ q8.0);
      running = q10.0;
      unread = ltb-true (place (at t r) o) (at t o).length q13.0;
    }

pub stop_allowed : (t : Table) (c k : ℕ) → first_no (event_questions t (Stop c k)) ≡ 0 → StopAllowed t c k
unfolding event_questions stop_questions keepable
stop_allowed t c k e =
    let q8 = no_no _ _ _ e in
    let q10 = no_no _ _ _ q8.1 in
    let q14 = no_no _ _ _ q10.1 in
    record {
      controller = named-at t c q8.0;
      running = q10.0;
      within = leb-true k (at t c).length (and_left _ _ q14.0);
      read_kept = λ r h. leb-true (place (at t r) c) k
          (all_named t.n (λ r. leb (place (at t r) c) k) (and_right (leb k (at t c).length) _ q14.0) r h);
    }

pub record ReadAllowed (t : Table) (c : ℕ) : Type 0 where
  pub controller : Among t.n c
  pub running : yes? (at t c).running ≡ true
  pub none_pending : (s : ℕ) → s < t.count → held (at t c) s ≡ true → (message t s).sender ≡ c → ⊥

pub read_allowed : (t : Table) (c : ℕ) → first_no (command_questions t (Read c)) ≡ 0 → ReadAllowed t c
unfolding command_questions read_questions
read_allowed t c e =
    let q8 = no_no _ _ _ e in
    let q10 = no_no _ _ _ q8.1 in
    let q18 = no_no _ _ _ q10.1 in
    record {
      controller = named-at t c q8.0;
      running = q10.0;
      none_pending = none_own t c q18.0;
    }

-- an event that is allowed changes a controller of the table
pub subject_allowed : (t : Table) (e : Event) → first_no (event_questions t e) ≡ 0 → Among t.n (subject e)
unfolding subject
subject_allowed t (Send c p) q = (send_allowed t c p q).sender
subject_allowed t (Handover r o) q = (handover_allowed t r o q).receiver
subject_allowed t (Stop c k) q = (stop_allowed t c k q).controller

-- a record that sends is a report's, a sync's, or a write's
pub data SendRecord (v : ℕ) (s : List ℕ) (p : Payload) : Type 0 where
  reports : kind s ≡ 1 → p ≡ reported (report_class v s) (word s 3) → SendRecord v s p
  syncs : kind s ≡ 2 → p ≡ sync → SendRecord v s p
  writes : kind s ≡ 6 → p ≡ write (byte s 3) (long s 4) → SendRecord v s p

pub send_record : (v : ℕ) (s : List ℕ) (c : ℕ) (p : Payload) → decode v s ≡ Act (Send c p) → SendRecord v s p
unfolding decode
send_record v s c p = go (eqb (kind s) 1) refl (eqb (kind s) 2) refl (eqb (kind s) 3) (eqb (kind s) 4) (eqb (kind s) 6) refl
  where
    go : (a : Bool) → eqb (kind s) 1 ≡ a → (b : Bool) → eqb (kind s) 2 ≡ b → (d f g : Bool) → eqb (kind s) 6 ≡ g
        → cond a (Act (Send (byte s 2) (reported (report_class v s) (word s 3))))
        (cond b (Act (Send (byte s 2) sync)) (cond d (Act (Handover (byte s 2) (byte s 3))) (cond f (Act (Stop (byte s 2) (word s 3)))
        (cond g (Act (Send (byte s 2) (write (byte s 3) (long s 4)))) (Read (byte s 2)))))) ≡ Act (Send c p)
        → SendRecord v s p
    go true q b z d f g y e = reports (eqb-true (kind s) 1 q) cc
    go false q true z d f g y e = syncs (eqb-true (kind s) 2 z) cc
    go false q false z true f g y e = let r : ◌≡◌ {A = ℕ} 0 1 = cc in absurd (omega arith)
    go false q false z false true g y e = let r : ◌≡◌ {A = ℕ} 0 1 = cc in absurd (omega arith)
    go false q false z false false true y e = writes (eqb-true (kind s) 6 y) cc
    go false q false z false false false y e = let r : ◌≡◌ {A = ℕ} 0 1 = cc in absurd (omega arith)

-- Question 17 refuses reports of version 2 alone: any other message that a record sends has class 0, as it must.
pub unclassed_fair : (v : ℕ) (s : List ℕ) (c : ℕ) (p : Payload) → decode v s ≡ Act (Send c p) → (eqb v 2 && eqb (kind s) 1) ≡ false → fair_class v p ≡ true
unfolding report_class fair_class
unclassed_fair v s c p e f = go (eqb v 2) refl (send_record v s c p e)
  where
    go : (w : Bool) → eqb v 2 ≡ w → SendRecord v s p → fair_class v p ≡ true
    go true z (reports q r) = absurd (true≢false (rw (z, q) at f))
    go false z (reports q r) =
        rw (r, z) (unfold reported in (cond_case (λ (x : Payload). eqb x.class 0 ≡ true) (ltb (word s 3) 32768) _ _ (λ _. refl) (λ _. refl)))
    go true z (syncs q r) = rw (r, z) refl
    go false z (syncs q r) = rw (r, z) refl
    go true z (writes q r) = rw (r, z) refl
    go false z (writes q r) = rw (r, z) refl

-- Question 19 refuses writes alone: any other message that a record sends has no register and no value, as it must.
pub unwritten_fair : (v : ℕ) (s : List ℕ) (c : ℕ) (p : Payload) → decode v s ≡ Act (Send c p) → kind s ≢ 6 → fair_register p ≡ true
unfolding fair_register reported
unwritten_fair v s c p e n = go (send_record v s c p e)
  where
    go : SendRecord v s p → fair_register p ≡ true
    go (reports q r) = rw r (cond_case (λ (x : Payload). fair_register x ≡ true) (ltb (word s 3) 32768) _ _ (λ _. refl) (λ _. refl))
    go (syncs q r) = rw r refl
    go (writes q r) = absurd (n q)

-- Questions 9 and 17 refuse reports alone: a write that a record sends has no amount and no class, as it must.
pub write_fair : (v : ℕ) (s : List ℕ) (c : ℕ) (p : Payload) → decode v s ≡ Act (Send c p) → kind s ≡ 6 → (fair_amount p ≡ true) × (fair_class v p ≡ true)
unfolding fair_amount fair_class
write_fair v s c p e k = go (send_record v s c p e)
  where
    class : (b : Bool) → cond (b && false) (ltb 0 0 && leb 0 4) true ≡ true
    class true = refl
    class false = refl

    go : SendRecord v s p → (fair_amount p ≡ true) × (fair_class v p ≡ true)
    go (reports q r) = absurd (omega (arith, k, q))
    go (syncs q r) = absurd (omega (arith, k, q))
    go (writes q r) = rw r (refl, class (eqb v 2))
