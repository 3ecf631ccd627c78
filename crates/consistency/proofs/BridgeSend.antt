-- An allowed report, sync or write is a legal broadcast. Assumes nothing.
use mathlib.Core.Path.{◌≡◌, refl, sym, ap, subst, ◌∙◌}
use mathlib.Core.Bool.{false}
use mathlib.Core.Logic.{◌≢◌}
use Prim.Native.Nat.{ℕ, suc, ◌+◌, ◌-◌, ◌<◌}
use native.Mathlib.Numerals.{add-one}
use native.Mathlib.Omega.{arith}
use Rattle.lists.proofs.Tests.{refuted}
use Rattle.model.specs.Tables.{seats, capacity, absent, at, message, slot_at, held, applied, unheld, with_message, with_mark, messages_of}
use Rattle.model.specs.Events.{sent_message, sent, subject, after, with_sent, next}
use Rattle.model.specs.Sized.{SizedController}
use Rattle.model.specs.Questions.{first_no, event_questions}
use Rattle.model.specs.declared.Message.{Message}
use Rattle.model.specs.declared.Payload.{Payload}
use Rattle.model.specs.declared.Controller.{Controller}
use Rattle.model.specs.declared.Table.{Table}
use Rattle.model.specs.declared.Event.TheVariants.{Send}
use Rattle.model.specs.Facts.{GoodController}
use Rattle.model.proofs.Allowed.{SendAllowed, send_allowed}
use Rattle.invariant.proofs.Stores.{seated, at_sized, message_new, message_old}
use Rattle.invariant.proofs.Logs.{log_within}
use Rattle.invariant.proofs.Buffering.{unheld-absent}
use Rattle.invariant.proofs.Sending.{Added, new, old, added}
use Rattle.broadcast.specs.State.{State, append}
use Rattle.broadcast.specs.Events.{MayBroadcast, broadcasts}
use Rattle.broadcast.proofs.Positions.{Entry}
use Rattle.broadcast.proofs.Invariant.{Invariant}
use Rattle.broadcast.proofs.Legal.{broadcast_entry}
use Rattle.broadcast.proofs.Stored.{Stored, sent-stored}
use Rattle.broadcast.proofs.Slots.{Slot}
use Rattle.consistency.proofs.Bridge.{top, code, system, code_sender, code_many, code_injective, code_at, marks_of, AbsentMarks, Shows, Related}
use Rattle.consistency.proofs.BridgeFacts.{few, lacking, length_is}
use Rattle.consistency.proofs.BridgeMarks.{Marked, marked}
use Rattle.consistency.proofs.BridgeKept.{append_readable, append_position, append_log, append_others, append_slot_of, append_numbered, Followed, followed}

module _ {n : ℕ} {t : Table} {s : State} (g : Related n t s) (c : ℕ) (p : Payload) (q : first_no (event_questions t (Send (suc c) p)) ≡ 0) where
  a : SendAllowed t (suc c) p
  a = send_allowed t (suc c) p q

  process : c < n
  process = omega (arith, a.sender, g.size)

  abbrev v : Invariant (system n) s
  v = g.all.invariant

  abbrev x : Controller
  x = at t (suc c)

  -- the new message and its code, and the table that has it
  abbrev k : ℕ
  k = x.length + 1

  abbrev m : ℕ
  m = code (suc c) k

  abbrev t₁ : Table
  t₁ = with_message t (sent_message (messages_of t) (at t (suc c)) (suc c) p)

  h : Shows n t s c x
  h = g.controllers c process

  good : GoodController t (suc c) x
  good = g.formed.controllers (suc c) a.sender

  size : SizedController x
  size = at_sized t (suc c) g.sized (seated g.formed.few a.sender)

  -- a log is no longer than the run, which has room for one message more
  room : x.length < capacity
  room = omega (arith, a.room, log_within t (suc c) x good)

  log_length : s.length c ≡ x.length
  log_length = length_is n t g.formed s v c (suc c) x good h a.running

  one_more : t₁.count ≡ suc t.count
  unfolding with_message
  one_more = add-one t.count

  code_new : code_at t₁ t.count ≡ m
  unfolding sent_message
  code_new = ap (λ (y : Message). code y.sender y.number.0) (message_new t _ g.sized a.room)

  code_old : (j : ℕ) → j < t.count → code_at t₁ j ≡ code_at t j
  code_old j l = ap (λ (y : Message). code y.sender y.number.0) (message_old t _ j l)

  -- no message of the run has the name
  unsent : (j : ℕ) → j < t.count → code_at t j ≢ m
  unsent j l e =
      let w = g.formed in
      let q = code_injective (message t j).sender (message t j).number.0 (suc c) k (seated w.few (w.senders j l)) (seated w.few a.sender)
      (w.numbers j l).0 (w.numbers j l).1 (omega arith) (omega (arith, room)) e in
      omega (arith, q.1, good.long a.running j l q.0)

  nowhere : (i : ℕ) → s.position i m ≡ top
  nowhere i = lacking g i m (λ l. let o = g.slot_of i m l in unsent o.slot o.below o.is)

  undelivered : (i : ℕ) → s.delivered i m ≡ false
  undelivered i = refuted (s.delivered i m) (λ e. omega (arith, v.logged i m e, nowhere i))

  may_broadcast : MayBroadcast (system n) s c m
  may_broadcast = record {
    process = omega (arith, few g, process);
    running = h.running ∙ a.running;
    own = code_sender (suc c) k (omega arith) (omega (arith, room)) ∙ omega arith;
    message = code_many (suc c) k (seated g.formed.few a.sender) (omega (arith, room));
    new = nowhere c;
    room = omega (arith, log_length, room);
  }

  enters : Entry (system n) s c m
  enters = broadcast_entry (system n) s v c m may_broadcast

  abbrev u : State
  u = append s c m

  -- WHAT EACH CONTROLLER IS AFTERWARDS, with the new slot

  module _ (i : ℕ) (process' : i < n) (y : Controller) where
    abbrev z : Controller
    z = at t (suc i)

    h' : Shows n t s i z
    h' = g.controllers i process'

    outside : (held z t.count ≡ false) × (applied z t.count ≡ false)
    outside = (g.formed.controllers (suc i) (omega (arith, g.size))).outside t.count a.room (omega arith)

    -- it stores what it stored, and the new message's marks
    record Stores : Type 0 where
      kept : (j f : ℕ) → j < t.count → f < seats → marks_of y j f ≡ marks_of z j f
      mine : i ≡ c → marks_of y t.count c ≡ k
      unmarked : (f : ℕ) → f < seats → (i ≡ c → f ≡ c → ⊥) → marks_of y t.count f ≡ absent

    stored : Stores → Stored (system n) t₁.count (code_at t₁) (marks_of y) u i
    stored q =
        subst (λ (b : ℕ). Stored (system n) b (code_at t₁) (marks_of y) u i) (sym one_more)
        (sent-stored (system n) t.count (code_at t₁) (marks_of z) (marks_of y) s i v c m may_broadcast code_new (λ j l e. unsent j l (sym (code_old j l) ∙ e))
        (λ j f l b. q.kept j f l (omega arith)) (λ e. q.mine e ∙ omega (arith, log_length)) (λ f b. q.unmarked f (omega arith))
        (record { stored = λ j l d f b. rw (code_old j l) (h'.marks.stored j l (rw (code_old j l) at d) f b) }))

    sent_shows : y.read ≡ z.read → y.running ≡ z.running → y.applied ≡ z.applied → u.readable i ≡ y.length
        → ((q : ℕ) → q < y.length → u.position i (code_at t₁ (slot_at y q)) ≡ q)
        → Stores → AbsentMarks y → Shows n t₁ u i y
    unfolding append
    sent_shows read running applied' length log stores absent_marks = record {
      length = length;
      places = λ o l. rw read (h'.places o l);
      running = rw running h'.running;
      log = log;
      applied_is = λ j l. rw applied' (each j (added t _ g.sized a.room j (omega (arith, one_more))));
      marks = stored stores;
      absent_marks = absent_marks;
    }
      where
        each : (j : ℕ) → Added t (sent_message (messages_of t) (at t (suc c)) (suc c) p) j → s.delivered i (code_at t₁ j) ≡ applied z j
        each j (new e _) = rw (e, code_new) (undelivered i ∙ sym outside.1)
        each j (old l _) = rw (code_old j l) (h'.applied_is j l)

  sender_shows : Shows n t₁ u c (sent t.count (at t (suc c)) (suc c))
  unfolding sent
  sender_shows =
      sent_shows c process (sent t.count (at t (suc c)) (suc c)) refl refl refl
      (append_readable n s c m (nowhere c) ∙ omega (arith, h.length))
      (append_log n s c m (nowhere c) x size room log_length (code_at t₁) t.count code_new
      (λ q b. rw (code_old (slot_at x q) (good.log_run q b)) (h.log q b)))
      (record { kept = λ j f l b. w.other j f (omega arith); mine = λ _. w.new; unmarked = λ f b d. w.given f (d refl) ∙ unheld-absent f b })
      (w.absent_marks h.absent_marks)
    where
      w : Marked x (with_mark x t.count unheld.marks (suc c) k) t.count unheld.marks c k
      w = marked x size t.count a.room unheld.marks refl c k (omega (arith, few g, process))

  others_show : (i : ℕ) → i < n → i ≢ c → Shows n t₁ u i (at t (suc i))
  others_show i l d =
      let b = append_others n s v c m enters t.count (code_at t) i (at t (suc i)) d (g.controllers i l) in
      let q = g.formed.controllers (suc i) (omega (arith, g.size)) in
      sent_shows i l (at t (suc i)) refl refl refl b.length
      (λ o e. rw (code_old (slot_at (at t (suc i)) o) (q.log_run o e)) (b.log o e))
      (record {
        kept = λ j f _ _. refl;
        mine = λ e. absurd (d e);
        unmarked = λ f e _. b.absent_marks t.count f a.room e (q.outside t.count a.room (omega arith)).0;
      })
      b.absent_marks

  slot_of : (i q : ℕ) → u.position i q < top → Slot t₁.count (code_at t₁) q
  slot_of =
      append_slot_of n s v c m enters t₁.count (code_at t₁) (record { slot = t.count; below = omega (arith, one_more); is = code_new })
      (λ i q l. let o = g.slot_of i q l in record { slot = o.slot; below = omega (arith, one_more, o.below); is = code_old o.slot o.below ∙ o.is })

  numbered : (j : ℕ) → j < t₁.count → suc (u.position ((message t₁ j).sender - 1) (code_at t₁ j)) ≡ (message t₁ j).number.0
  unfolding sent_message
  numbered j l = each (added t _ g.sized a.room j (omega (arith, one_more)))
    where
      each : Added t (sent_message (messages_of t) (at t (suc c)) (suc c) p) j → suc (u.position ((message t₁ j).sender - 1) (code_at t₁ j)) ≡ (message t₁ j).number.0
      each (new _ e) = let from_zero : suc c - 1 ≡ c = omega arith in rw (e, from_zero) (omega (arith, append_position n s c m (nowhere c), log_length))
      each (old b e) = rw e (append_numbered n s v c m enters _ _ _ (g.formed.numbers j b).1 (g.numbered j b))

  pub send_followed : Followed n (next t (Send (suc c) p)) s
  unfolding subject after with_sent
  send_followed =
      followed g (Send (suc c) p) q c refl u (broadcasts c m may_broadcast) sender_shows others_show slot_of numbered
