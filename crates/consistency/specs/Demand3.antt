-- Demand 3 (RULES.md, sections 20 and 21): one claim about a whole list of calls, read from the calls' arguments and answers. That it
-- holds of every list is proofs/Theorem.antt. Entries.antt, Ledger.antt, Lines.antt and Dispatches.antt are read before it.
use Rattle.std.specs.Prelude.{ℕ, suc, ◌-◌, ◌*◌, ◌≤◌, ◌<◌, ◌≡◌, ◌⊎◌, Bool, true, false, cond, List, [], ◌∷◌, ◌++◌, length, get_or, take, drop}
use Rattle.lists.specs.Below.{count}
use Rattle.model.specs.Tables.{scratch_size, sync_kind, no_sums, no_register, Among}
use Rattle.model.specs.Records.{byte, kind}
use Rattle.model.specs.Registers.{exceeds}
use Rattle.model.specs.Questions.{first_no, file_questions}
use Rattle.model.specs.Calls.{EventAnswer, fresh_table}
use Rattle.turns.specs.Dispatcher.{Dispatched, says_none}
use Rattle.previews.specs.Previews.{Preview}
use Rattle.model.specs.Runs.{file_run}
use Rattle.model.specs.declared.Name.{Name}
use Rattle.model.specs.declared.Sums.{Sums}
use Rattle.model.specs.declared.Register.{Register}
use Rattle.model.specs.declared.Panel.{Panel}
use Rattle.model.specs.declared.Table.{Table}
use Rattle.model.specs.declared.Event.{Event}
use Rattle.model.specs.declared.Event.TheVariants.{Handover}
use Rattle.model.specs.declared.LookAnswer.{LookAnswer}
use Rattle.model.specs.declared.Pair.{Pair}
use Rattle.consistency.specs.Entries.{name, has, Distinct, own_of, panel_look, asking, dispatching, committing, Call, single_event, observing, Line, Entry, answered, observed, served, handed, listed, transcript, Said, Step, carried, steps, did}
use Rattle.consistency.specs.Ledger.{Sent, Ledger, applied, writes, written, register_at, ledger, sent_names, remaining, weights, showing, finishing}
use Rattle.consistency.specs.Lines.{file_entries}
use Rattle.consistency.specs.Dispatches.{NoStop, handover_count, acts_in, CutAway, dispatches, FollowOn, dispatch_answers, not_none}

-- THE HEAD AND THE LIST

-- "The list starts from the table that an accepted request for a fresh table gave." "A file run past question 3 may head a list in
-- place of that request"
pub data Head : Type 0 where
  request : (version controllers : ℕ) → Head
  file : (bytes listing scratch : List ℕ) → Head

-- accepted; past question 3: every question put to a file was answered yes
unfoldable pub Heads : Head → Type 0
Heads (request v n) = (fresh_table v n).refusal ≡ 0
Heads (file s listing scratch) = first_no (file_questions s) ≡ 0

-- the version that its records are read in: that of the request, or byte 0 of the file
unfoldable pub version : Head → ℕ
version (request v n) = v
version (file s listing scratch) = byte s 0

unfoldable pub controllers : Head → ℕ
controllers (request v n) = n
controllers (file s listing scratch) = byte s 1

-- what it puts first in the list
unfoldable pub opening : Head → List Entry
opening (request v n) = []
opening (file s listing scratch) = file_entries s (file_run s listing scratch)

-- "the next call, if any, gets its last table"
unfoldable pub given : Head → Table
given (request v n) = (fresh_table v n).table
given (file s listing scratch) = (file_run s listing scratch).answer.table

-- the list: what the head puts first, and then the calls, from its table on
unfoldable pub entries : Head → List Call → List Entry
entries h calls = opening h ++ transcript (given h) calls

-- "A moment is its start or the end of one of its calls."
abbrev pub moment : Head → List Call → ℕ → Ledger
moment h calls i = ledger (did (version h) (take i (entries h calls)))

-- THE CLAIM

abbrev pub Contains : List Name → List Name → Type 0
Contains xs ys = (m : Name) → has m ys ≡ true → has m xs ≡ true

abbrev pub Exactly : List Name → List Name → Type 0
Exactly xs ys = (m : Name) → has m xs ≡ has m ys

-- no register has a later stamp in the first than in the second
abbrev pub NoLater : (ℕ → Register) → (ℕ → Register) → Type 0
NoLater f g = (r : ℕ) → exceeds (f r).stamp (g r).stamp ≡ false

-- r is one of n controllers, and has not stopped
pub record IsRunning (n : ℕ) (l : Ledger) (r : ℕ) : Type 0 where
  pub named : Among n r
  pub running : l.runs r ≡ true

-- more than half of all controllers run
abbrev pub MajorityRuns : ℕ → Ledger → Type 0
MajorityRuns n l = n < 2 * count n (λ i. l.runs (suc i))

-- and each of these has read each of the n logs to its end
pub record ReadOut (n : ℕ) (l : Ledger) : Type 0 where
  pub majority : MajorityRuns n l
  -- "A log is read to its end when the reader's place equals its length."
  pub to_end : (r o : ℕ) → IsRunning n l r → Among n o → l.place r o ≡ length (l.log o)

-- a look at r after these calls, and what it is answered: it is not refused, and shows this panel
pub record LookShows (h : Head) (calls : List Call) (r : ℕ) (panel : Panel) : Type 0 where
  pub answer : LookAnswer
  pub last : entries h (calls ++ (observing (panel_look r) ∷ [])) ≡ entries h calls ++ (observed (panel_look r) answer ∷ [])
  pub accepted : answer.refusal ≡ 0
  pub shown : answer.panel ≡ panel

-- the record of a local read of c, and a record that is one
abbrev pub read_record : ℕ → List ℕ
read_record c = 2 ∷ 5 ∷ c ∷ []

abbrev pub IsRead : List ℕ → Type 0
IsRead s = kind s ≡ 5

-- a local read of r after these calls, lent this scratch area, and what it is answered: it is not refused, and gives these sums
pub record ReadGives (h : Head) (calls : List Call) (r : ℕ) (scratch : List ℕ) (sums : Sums) : Type 0 where
  pub answer : EventAnswer
  pub last : entries h (calls ++ (single_event (read_record r) scratch ∷ [])) ≡ entries h calls ++ (answered (read_record r) scratch answer ∷ [])
  pub accepted : answer.refusal ≡ 0
  pub gives : answer.sums ≡ sums

-- what a handover answers besides its set: f, whether it finishes a sync of the receiver's own; if so, the sums z, and else zeros. The
-- answer of a record in a file is the two figures of its line, which does not say whether it does.
unfoldable pub Finishes : Entry → Bool → Sums → Type 0
Finishes (answered s w a) f z = (a.finished ≡ f) × (a.sums ≡ cond f z no_sums)
Finishes (observed o a) f z = ⊥
Finishes (served s a) f z = ⊥
Finishes (handed s p a) f z = (a.finished ≡ f) × (a.sums ≡ cond f z no_sums)
Finishes (listed s x) f z = f ≡ true → x.sums ≡ z

-- THE DISPATCHER

-- the entries between two moments
abbrev pub between : Head → List Call → ℕ → ℕ → List Entry
between h calls i j = take (j - i) (drop i (entries h calls))

-- an entry of the log of o is next for r, which runs
pub record Waiting (n : ℕ) (l : Ledger) (r o : ℕ) : Type 0 where
  pub receiver : IsRunning n l r
  pub owner : Among n o
  pub unread : l.place r o < length (l.log o)

-- the last call of the list is the dispatcher's, and says "none"
pub record LastSaysNone (h : Head) (calls : List Call) : Type 0 where
  pub before : List Entry
  pub named : Pair
  pub scratch : List ℕ
  pub answer : Dispatched
  pub last : entries h calls ≡ before ++ (served (dispatching named scratch) answer ∷ [])
  pub none : says_none answer ≡ true

-- the end of a run: each running controller has read every log to its end and, where more than half of all controllers run, each of
-- these has applied exactly the messages sent, less those cut off, and a look at it shows that
pub record AtTheEnd (h : Head) (calls : List Call) (l : Ledger) : Type 0 where
  pub read : (r o : ℕ) → IsRunning (controllers h) l r → Among (controllers h) o → l.place r o ≡ length (l.log o)
  pub applies : MajorityRuns (controllers h) l → (r : ℕ) → IsRunning (controllers h) l r → Exactly (applied l r) (remaining l)
  pub shows : MajorityRuns (controllers h) l → (r : ℕ) → IsRunning (controllers h) l r → LookShows h calls r (showing l.sent (remaining l))

-- ASK AND COMMIT

-- entry i is an accepted ask of p, which answers a
pub record AskedAt (h : Head) (calls : List Call) (i : ℕ) (p : Pair) (a : Preview) : Type 0 where
  pub scratch : List ℕ
  pub after : List Entry
  pub there : drop i (entries h calls) ≡ observed (asking p scratch) a ∷ after
  pub accepted : a.refusal ≡ 0

-- entry j is a commit of p with an act count, lent the scratch area w, which answers b
pub record CommittedAt (h : Head) (calls : List Call) (j : ℕ) (p : Pair) (acts : ℕ) (w : List ℕ) (b : EventAnswer) : Type 0 where
  pub after : List Entry
  pub there : drop j (entries h calls) ≡ served (committing p acts w) b ∷ after

-- BEGUN AND FINISHED are positions in the list: entry i, counted from 0, stands between moments i and i + 1

-- entry i begins x: x is the message that it sends
abbrev pub Begun : Head → List Call → ℕ → Sent → Type 0
Begun h calls i x = (moment h calls (suc i)).sent ≡ (moment h calls i).sent ++ (x ∷ [])

-- entry i applies m at c: it is an accepted handover to c, and m is in the set that it answers
pub record Applies (h : Head) (calls : List Call) (i c : ℕ) (m : Name) : Type 0 where
  pub entry : Entry
  pub after : List Entry
  pub there : drop i (entries h calls) ≡ entry ∷ after
  pub said : Said
  pub owner : ℕ
  pub set : List Name
  pub handover : steps (version h) entry ≡ carried said (Handover c owner) set ∷ []
  pub member : has m set ≡ true

-- entry i finishes m: it applies m at m's sender
abbrev pub Finished : Head → List Call → ℕ → Name → Type 0
Finished h calls i m = Applies h calls i m.sender m

-- what c has in one ledger is within what d has in another
pub record Within (l : Ledger) (c : ℕ) (k : Ledger) (d : ℕ) : Type 0 where
  pub messages : Contains (applied k d) (applied l c)
  -- each sum, of either kind and of any class, is over a larger set, and so no smaller: whatever messages weigh
  pub sums : (w : Sent → ℕ) → weights w l.sent (applied l c) ≤ weights w k.sent (applied k d)
  pub registers : NoLater (register_at l c) (register_at k d)

-- a register is this one, its value and its stamp, or has a greater stamp
abbrev pub OrLater : Register → Register → Type 0
OrLater y z = (z ≡ y) ⊎ (exceeds z.stamp y.stamp ≡ true)

-- register r of c is y, or has a greater stamp: at moment i, and in a look at c there
pub record Bears (h : Head) (calls : List Call) (i c r : ℕ) (y : Register) : Type 0 where
  pub held : OrLater y (register_at (moment h calls i) c r)
  pub shown : (a : LookAnswer) (after : List Entry) → drop i (entries h calls) ≡ observed (panel_look c) a ∷ after
      → a.refusal ≡ 0 → OrLater y (get_or a.panel.registers (r - 1) no_register)

-- "Demand 3 is a single claim about the whole list, and not one for each call."
pub record Consistent (h : Head) (calls : List Call) : Type 0 where
  -- "at any two moments of the list, what one controller has applied at one of them contains what another has applied at the
  -- other, or the reverse"
  pub contains : (i j c d : ℕ)
      → let l = moment h calls i in
      let k = moment h calls j in
      Contains (applied l c) (applied k d) ⊎ Contains (applied k d) (applied l c)
  -- "Each applied message was sent earlier in the list"
  pub sent : (before after : List Step) (r : Said) (e : Event) (ms : List Name)
      → did (version h) (entries h calls) ≡ before ++ (carried r e ms ∷ after) → Contains (sent_names (ledger before)) ms
  -- "It is named by its sender and its message number": no two messages that were sent have one name
  pub names : (i : ℕ) → Distinct (sent_names (moment h calls i))
  -- "and no controller applies it twice": "in two of them, or twice in one"
  pub once : (i c : ℕ) → Distinct (applied (moment h calls i) c)
  -- "Each look that is not refused shows the sum of the amounts that its controller has applied", each sum over its own part of them,
  -- for each class the sums over the messages of that class, and for each register the write with the greatest stamp among them
  pub looks : (i c : ℕ) (a : LookAnswer) (after : List Entry) → drop i (entries h calls) ≡ observed (panel_look c) a ∷ after
      → let l = moment h calls i in
      a.refusal ≡ 0 → a.panel ≡ showing l.sent (applied l c)
  -- each local read that is not refused gives the same sums; its controller is the byte after its kind
  pub reads : (i : ℕ) (s w : List ℕ) (a : EventAnswer) (after : List Entry) → drop i (entries h calls) ≡ answered s w a ∷ after
      → let l = moment h calls i in
      IsRead s → a.refusal ≡ 0 → a.sums ≡ (showing l.sent (applied l (byte s 2))).sums
  -- and rests on every message that its controller has sent
  pub reads_own : (i : ℕ) (s w : List ℕ) (a : EventAnswer) (after : List Entry) → drop i (entries h calls) ≡ answered s w a ∷ after
      → let l = moment h calls i in
      IsRead s → a.refusal ≡ 0 → Contains (applied l (byte s 2)) (own_of (byte s 2) (sent_names l))
  -- an accepted handover to r answers "finished" exactly if its set holds a sync of r's own, and then the two sums over all that r has
  -- then applied
  pub syncs : (i r o : ℕ) (q : Said) (ms : List Name) (e : Entry) (after : List Entry) → drop i (entries h calls) ≡ e ∷ after
      → steps (version h) e ≡ carried q (Handover r o) ms ∷ []
      → let l = moment h calls (suc i) in
      Finishes e (finishing l.sent ms r) (showing l.sent (applied l r)).sums
  -- each line of a file run gives the two sums over all that its controller has then applied
  pub lines : (i r o : ℕ) (q : Said) (m : Name) (ms : List Name) (s : List ℕ) (x : Line) (after : List Entry) → drop i (entries h calls) ≡ listed s x ∷ after
      → steps (version h) (listed s x) ≡ carried q (Handover r o) (m ∷ ms) ∷ []
      → let l = moment h calls (suc i) in
      x.sums ≡ (showing l.sent (applied l r)).sums
  -- "Two reports of one sender are applied in number order or together": whoever has applied c.k has applied each c.j that was sent
  -- with j below k
  pub in_order : (i r c j k : ℕ)
      → let l = moment h calls i in
      j < k → has (name c k) (applied l r) ≡ true → has (name c j) (sent_names l) ≡ true → has (name c j) (applied l r) ≡ true
  -- no two writes of one register that were sent have the same stamp
  pub stamps : (i r : ℕ) (x y : Sent) (before between after : List Sent)
      → (moment h calls i).sent ≡ before ++ (x ∷ between ++ (y ∷ after))
      → writes r x ≡ true → writes r y ≡ true → (written x).stamp ≡ (written y).stamp → ⊥
  -- "Any two snapshots, wherever taken, must be in order: one has each register's stamp no later than the other's": at any two moments, and
  -- whether anybody looked or not
  pub snapshots : (i j c d : ℕ)
      → let l = moment h calls i in
      let k = moment h calls j in
      NoLater (register_at l c) (register_at k d) ⊎ NoLater (register_at k d) (register_at l c)
  -- and where two of them have the same stamp for a register, they have the same value
  pub values : (i j c d r : ℕ)
      → let l = moment h calls i in
      let k = moment h calls j in
      (register_at l c r).stamp ≡ (register_at k d r).stamp → (register_at l c r).value ≡ (register_at k d r).value
  -- "Take a sync begun after a report was finished at its sender: once the sync is finished, its answer includes the report": entry i
  -- finishes m, a report, sync or write; after it entry j begins s, a sync or another message; and entry k finishes s. From then on s's
  -- sender has applied m. "Local reads are exempt": no field says this of them
  pub includes : (i j k later : ℕ) (m : Name) (s : Sent)
      → Finished h calls i m → i < j → Begun h calls j s → Finished h calls k s.name → k < later
      → has m (applied (moment h calls later) s.name.sender) ≡ true
  -- and the answer of a finished sync is the two sums over all that its sender has then applied: that is what it rests on
  pub answers : (j k : ℕ) (s : Sent) → Begun h calls j s → s.said.kind ≡ sync_kind → (f : Finished h calls k s.name)
      → let l = moment h calls (suc k) in
      Finishes f.entry true (showing l.sent (applied l s.name.sender)).sums
  -- "Of two finished syncs, the later begun after the earlier was finished, the later answer rests on everything the earlier did": of
  -- any two messages, x finished before y was begun
  pub rests : (i j k : ℕ) (x : Name) (y : Sent)
      → Finished h calls i x → i < j → Begun h calls j y → Finished h calls k y.name
      → Within (moment h calls (suc i)) x.sender (moment h calls (suc k)) y.name.sender
  -- "A finished write is found likewise: the register then bears its stamp or a greater one": entry b begins x, a write of register r, and
  -- entry i finishes it; i, j and k as above
  pub found : (b i j k later r : ℕ) (x s : Sent)
      → Begun h calls b x → writes r x ≡ true
      → Finished h calls i x.name → i < j → Begun h calls j s → Finished h calls k s.name → k < later
      → Bears h calls later s.name.sender r (written x)
  -- "Whenever more than half of all controllers run and each of these has read every log to its end, each of these has applied
  -- exactly the messages sent, less those cut off with a stopped sender's log"
  pub ending : (i r : ℕ)
      → let l = moment h calls i in
      ReadOut (controllers h) l → IsRunning (controllers h) l r → Exactly (applied l r) (remaining l)
  -- "and a look at it shows the sum of their amounts", each sum over its own part, and each class comes out as the whole does: the
  -- list up to a moment, extended by that look
  pub ending_look : (i r : ℕ)
      → let now = take i calls in
      let l = ledger (did (version h) (entries h now)) in
      ReadOut (controllers h) l → IsRunning (controllers h) l r
      → LookShows h now r (showing l.sent (remaining l))
  -- and so does a local read of it, which is not refused where it is lent enough scratch: nothing of its own is pending
  pub ending_read : (i r : ℕ) (w : List ℕ)
      → let now = take i calls in
      let l = ledger (did (version h) (entries h now)) in
      ReadOut (controllers h) l → IsRunning (controllers h) l r → scratch_size ≤ length w
      → ReadGives h now r w (showing l.sent (remaining l)).sums
  -- "As long as nobody stops and each call names the pair last served, a waiting entry that is next for a running receiver is read within
  -- n x n of the dispatcher's handovers": between two moments the dispatcher makes n x n handovers or more, each of which but the first,
  -- which names p, names the pair that the one before it served. Whatever else stands between, and whatever those calls of the dispatcher
  -- name that are refused or say "none", the entry that waited at the first moment has been read at the second
  pub fair : (i j r o : ℕ) (p : Pair)
      → let n = controllers h in
      let xs = between h calls i j in
      NoStop (did (version h) xs) → FollowOn p (dispatches xs) → n * n ≤ length (dispatches xs)
      → Waiting n (moment h calls i) r o → (moment h calls i).place r o < (moment h calls j).place r o
  -- "With no new reports, syncs or writes and no stop, it reaches "none" in at most 3,136 handovers": between any two moments no more than
  -- these are accepted, the dispatcher's and others together, and also where there is a new report, sync, write or stop
  pub bounded : (i j : ℕ) → handover_count (did (version h) (between h calls i j)) ≤ 3136
  -- a call of the dispatcher that names controllers 1 to n, with enough scratch, is accepted
  pub accepts : (i : ℕ) (p : Pair) (w : List ℕ) (a : Dispatched) (after : List Entry) → drop i (entries h calls) ≡ served (dispatching p w) a ∷ after
      → Among (controllers h) p.receiver → Among (controllers h) p.owner → scratch_size ≤ length w → a.answer.refusal ≡ 0
  -- and so of any 3,137 such calls one says "none": no more than 3,136 of them do not
  pub one_none : (i j : ℕ) → not_none (dispatch_answers (controllers h) (between h calls i j)) ≤ 3136
  -- "The ending promised between panels then applies wherever a majority runs": when a call of the dispatcher says "none"
  pub none_ends : (i : ℕ)
      → let now = take i calls in
      LastSaysNone h now → AtTheEnd h now (ledger (did (version h) (entries h now)))
  -- "the receiver's act count (accepted events in which it sent a message, was the receiver of a handover or stopped)": of the steps before
  -- an accepted ask
  pub acts : (i : ℕ) (p : Pair) (a : Preview) → AskedAt h calls i p a → a.acts ≡ acts_in p.receiver (did (version h) (take i (entries h calls)))
  -- "If accepted, its set is the one shown, though others may have acted in between": of a later commit with that count
  pub as_shown : (i j : ℕ) (p : Pair) (a : Preview) (w : List ℕ) (b : EventAnswer)
      → AskedAt h calls i p a → i < j → CommittedAt h calls j p a.acts w b → b.refusal ≡ 0 → b.names ≡ a.names
  -- "an entry cut away in between gives 13": where the receiver has not acted since the ask, a commit with enough scratch is accepted if no
  -- stop in between has cut the entry away, and else refused by 13
  pub taken : (i j : ℕ) (p : Pair) (a : Preview) (w : List ℕ) (b : EventAnswer)
      → let xs = did (version h) (between h calls i j) in
      AskedAt h calls i p a → i < j → CommittedAt h calls j p a.acts w b → scratch_size ≤ length w → acts_in p.receiver xs ≡ 0
      → let Cut = CutAway xs p.owner ((moment h calls i).place p.receiver p.owner) in
      ((b.refusal ≡ 0) × (Cut → ⊥)) ⊎ ((b.refusal ≡ 13) × Cut)
