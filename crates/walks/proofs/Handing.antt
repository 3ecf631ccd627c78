-- The steps of a walk for any list of parameters: their locals are made, filled and freed, structs are copied out of what is lent, and all is handed to the callee. What is held of all parameters is one formula, so that every place in a walk is a numeral.
-- Assumes nothing.
use mathlib.Core.Path.{◌≡◌, refl, sym, ap, subst}
use Prim.Native.Nat.{ℕ, zero, suc}
use mathlib.Core.List.{[], ◌∷◌, List}
use lib.ListN.{length, get_or, drop as dropped}
use seplogic.Ra.Ura.{Ura}
use base.Fraction.{full_share}
use mir.Syntax.{Ty, named, Local, Step as PStep, place, Opd as Operand, Body}
use mir.Val.{Val, vint}
use base.Logic.{SProp, ent, emp, via, id⊢}
use base.Fml.{Lft, Fml, ftrue, fsep, fat, froom, fdies, flft, fobs, fbor}
use prog.Wp.{Calls, Loops, Env, Spot, no_local, walk as walks}
use types.Logic.{Logic, sem}
use contract.Lifetimes.{Lfts, Shares, toks}
use types.Kit.{Item, Goal, Go, Sq, ‵, raw, ◌⊛◌, ⋆, mean, keep, ◌$◌, ◌∵◌, !, Post, runs, allocs, passes, frees, qed, move, drop, use1, split, split3, join, fsplit, fsplit3, fjoin, done}
use types.Run.{Walks, Finds, Opds, look, look_raw, init, stop, hop, fld, load, addr, of_opd, and_then, no_more, assigns, alloc1, pass1}
use types.SemTy.{Arr, Body as Holds}
use types.Hole.{Holey}
use types.Part.{agg, whole, sub, look_in}
use denote.RattleType.{RattleType, Denots, Valss, flat, owns}
use denote.Laws.{Is, Ises, Are, Spells, valss, Tellss}
use denote.Memory.{mem, hidden_shr}
use denote.Plain.{UInt, uint_vals, uint_Tells, uint_Makes, uint_Lawful}
use denote.Builtin.{u8}
use denote.Ref.{MutBor, MutRef, ShrRef, at_last, shr_vals, mut_vals, mut_Tells, shr_Tells}
use denote.Slice.{MutSlice, ShrSlice, shr_slice_vals, mut_slice_vals, finally, mut_slice_Tells, shr_slice_Tells, mut_slice_Lawful, shr_slice_Lawful}
use denote.Steps.{nothing, owned}
use denote.Struct.Declared.{row}
use denote.Struct.Laws as LL
use denote.Exit.{yes}
use denote.Signature.{Slot, plain, types_at}
use denote.Triple.End.{Fins, Outs, outs, lasts_of, all}
use denote.Triple.Walked.{Stays, stay_dropped, fits_of, has_of, AllGo, Goes-ref, Goes-dropped, Goes-gave_slice}
use Rattle.walks.proofs.Steps.{ptr_of, read_ptr_of, slice_of, read_slice_of, as_long, looked, shut, freed}
use Rattle.walks.proofs.Parameters.{Lendable, Kind, number, struct, slice, area, lifetimes, handed, handed_lfts, handed_shares, Life, Param, passed, copied, shared, given, Ahead, past_number, past_struct, past_slice, past_area, own, params, Areas, locals, param_types, temp_types, skip, skip_temps, copying, operands, inners, Rows, left_in, inner_vals}

-- ---- locals: where each lies, and what it holds

abbrev pub Each : Type 0 → List Ty → Type 0
Each X [] = Unit {0}
Each X (τ ∷ τs) = X × Each X τs

abbrev pub rooms : (τs : List Ty) → Each ℕ τs → Fml
rooms [] bs = ftrue
rooms (τ ∷ τs) bs = fsep (fsep (froom τ bs.0 zero) (fdies τ bs.0)) (rooms τs bs.1)

abbrev pub cells : (τs : List Ty) → Each ℕ τs → Each Val τs → Fml
cells [] bs vs = ftrue
cells (τ ∷ τs) bs vs = fsep (fsep (fat full_share τ bs.0 zero vs.0) (fdies τ bs.0)) (cells τs bs.1 vs.1)

abbrev pub env : (τs : List Ty) → Each ℕ τs → List (Ty × ℕ) → List (Ty × ℕ)
env [] bs E = E
env (τ ∷ τs) bs E = (τ, bs.0) ∷ env τs bs.1 E

-- from the local i on, the locals E are F
pub record At (E : List (Ty × ℕ)) (i : ℕ) (F : List (Ty × ℕ)) : Type 0 where
  pub at : dropped i E ≡ F

next-at : (i : ℕ) (E : List (Ty × ℕ)) {e : Ty × ℕ} {F : List (Ty × ℕ)} → dropped i E ≡ e ∷ F → dropped (suc i) E ≡ F
next-at zero E h = ap (dropped 1) h
next-at (suc i) [] h = ap (dropped 1) h
next-at (suc i) (x ∷ E) h = next-at i E h

pub at_next : {E F : List (Ty × ℕ)} {i : ℕ} {e : Ty × ℕ} → At E i (e ∷ F) → At E (suc i) F
at_next {E} {i = i} h = record { at = next-at i E h.at }

local_is : (d : Ty × ℕ) (i : ℕ) (E : List (Ty × ℕ)) {e : Ty × ℕ} {F : List (Ty × ℕ)} → dropped i E ≡ e ∷ F → get_or E i d ≡ e
local_is d zero E h = ap (λ (l : List (Ty × ℕ)). get_or l 0 d) h
local_is d (suc i) [] h = ap (λ (l : List (Ty × ℕ)). get_or l 0 d) h
local_is d (suc i) (x ∷ E) h = local_is d i E h

module _ {n m : ℕ} where
  pub at_skip : (i : ℕ) (xs : List (Param n m)) (bs : Each ℕ (param_types xs)) {E F : List (Ty × ℕ)} → At E i (env (param_types xs) bs F) → At E (skip i xs) F
  at_skip i [] bs h = h
  at_skip i (x ∷ xs) bs h = at_skip (suc i) xs bs.1 (at_next h)

  pub at_skip_temps : (t : ℕ) (xs : List (Param n m)) (cs : Each ℕ (temp_types xs)) {E F : List (Ty × ℕ)} → At E t (env (temp_types xs) cs F) → At E (skip_temps t xs) F
  at_skip_temps t [] cs h = h
  at_skip_temps t (passed w ∷ xs) cs h = at_skip_temps t xs cs h
  at_skip_temps t (copied ℓ S ∷ xs) cs h = at_skip_temps (suc t) xs cs.1 (at_next h)
  at_skip_temps t (shared ℓ i w ∷ xs) cs h = at_skip_temps t xs cs h
  at_skip_temps t (given ℓ i ∷ xs) cs h = at_skip_temps (suc (suc t)) xs cs.1.1 (at_next (at_next h))

  -- the tokens of the structs
  abbrev pub read_toks : Lfts n → Shares n → List (Param n m) → Fml
  read_toks κs qs [] = ftrue
  read_toks κs qs (passed w ∷ xs) = read_toks κs qs xs
  read_toks κs qs (copied ℓ S ∷ xs) = fsep (flft (ℓ.lft κs) (ℓ.share qs)) (read_toks κs qs xs)
  read_toks κs qs (shared ℓ i w ∷ xs) = read_toks κs qs xs
  read_toks κs qs (given ℓ i ∷ xs) = read_toks κs qs xs

  -- the callee's lifetimes are the call's
  abbrev pub Agree : Lfts n → Lfts m → List (Param n m) → Type 0
  Agree κs κi [] = Unit {0}
  Agree κs κi (passed w ∷ xs) = Agree κs κi xs
  Agree κs κi (copied ℓ S ∷ xs) = Agree κs κi xs
  Agree κs κi (shared ℓ i w ∷ xs) = (ℓ.lft κs ≡ i.lft κi) × Agree κs κi xs
  Agree κs κi (given ℓ i ∷ xs) = (ℓ.lft κs ≡ i.lft κi) × Agree κs κi xs

-- the callee's lifetimes are the call's, if they are those that are handed on
pub agrees : {n m : ℕ} (κs : Lfts n) (κi : Lfts m) (ks : List Kind) (v : Ahead n m ks) → handed_lfts ks (v.lfts κs) ≡ v.callee_lfts κi → Agree κs κi (params ks v)
agrees κs κi [] v e = tt
agrees κs κi (number w ∷ ks) v e = agrees κs κi ks (past_number v) e
agrees κs κi (struct S ∷ ks) v e = agrees κs κi ks (past_struct v) e
agrees κs κi (slice w ∷ ks) v e = (ap (λ (x : Lfts (suc (handed ks))). x.0) e, agrees κs κi ks (past_slice v) (ap (λ (x : Lfts (suc (handed ks))). x.1) e))
agrees κs κi (area ∷ ks) v e = (ap (λ (x : Lfts (suc (handed ks))). x.0) e, agrees κs κi ks (past_area v) (ap (λ (x : Lfts (suc (handed ks))). x.1) e))

module _ {M : Type 1} {𝓤 : Ura M} {𝓛 : Logic 𝓤} where
  open 𝓛 use {H}

  pub from_at : {Γ : List (Item 𝓤)} {E F : Env 𝓤 H} {i : ℕ} {e : Ty × ℕ} {st : List PStep} {sp : Spot 𝓤 H} → At E i (e ∷ F) → Walks (Go {0}) 𝓛 Γ E (e.0, e.1, zero) st sp → Finds (Go {0}) 𝓛 Γ E (place i st) sp
  from_at {Γ} {E} {i = i} {e} {st} h w = record { go = λ Kt k. subst (λ (z : Ty × ℕ). ent 𝓤 (⋆ 𝓛 Γ) (walks 𝓤 H E (z.0, z.1, zero) st Kt)) (sym (local_is (no_local 𝓤 H) i E h.at)) (w.go Kt k) }

  pub allocated : (τs : List Ty) {Γ : List (Item 𝓤)} {ls : List Local} {Kt : Env 𝓤 H → Goal 𝓤 H} → ((bs : Each ℕ τs) → Sq 𝓛 (‵ (rooms τs bs) ∷ Γ) (allocs ls (λ E. Kt (env τs bs E)))) → Sq 𝓛 Γ (allocs (locals τs ls) Kt)
  allocated [] k = nothing ! $ k tt
  allocated (τ ∷ τs) k = alloc1 ! (λ b. allocated τs (λ bs. move ! (1 ∷ 2 ∷ []) $ fjoin ! $ fjoin ! $ k (b, bs)))

  pub all_freed : (τs : List Ty) (bs : Each ℕ τs) (vs : Each Val τs) {Γ : List (Item 𝓤)} {E : Env 𝓤 H} {g : Goal 𝓤 H} → Sq 𝓛 Γ (frees E g) → Sq 𝓛 (‵ (cells τs bs vs) ∷ Γ) (frees (env τs bs E) g)
  all_freed [] bs vs s = drop ! $ s
  all_freed (τ ∷ τs) bs vs s = fsplit ! $ fsplit ! $ freed ! 0 refl refl $ all_freed τs bs.1 vs.1 s

  -- operands that are read from a context that holds the same
  opds_via : {Γ Δ : List (Item 𝓤)} {E : Env 𝓤 H} {xs : List Operand} {vs : List Val} → ent 𝓤 (⋆ 𝓛 Γ) (⋆ 𝓛 Δ) → ent 𝓤 (⋆ 𝓛 Δ) (⋆ 𝓛 Γ) → Opds (Go {0}) 𝓛 Δ E xs vs → Opds (Go {0}) 𝓛 Γ E xs vs
  opds_via {Γ} {Δ} to back o = record { go = λ Kt h. via 𝓤 (⋆ 𝓛 Δ) to (o.go Kt (via 𝓤 (⋆ 𝓛 Γ) back h)) }

  pub opds_under : {i x y : Item 𝓤} {Γ : List (Item 𝓤)} {E : Env 𝓤 H} {xs : List Operand} {vs : List Val} → Opds (Go {0}) 𝓛 (x ∷ y ∷ i ∷ Γ) E xs vs → Opds (Go {0}) 𝓛 (i ∷ x ∷ y ∷ Γ) E xs vs
  opds_under {i} {x} {y} {Γ} o = opds_via (qed 𝓛 (i ∷ x ∷ y ∷ Γ) ∵ move ! (1 ∷ 2 ∷ []) $ done !) (qed 𝓛 (x ∷ y ∷ i ∷ Γ) ∵ move ! (2 ∷ []) $ done !) o

  -- an operand is in the first parameter, in the first temporary or in the second
  module _ {T P c d : Fml} {Γ : List (Item 𝓤)} {E : Env 𝓤 H} {xs : List Operand} {vs : List Val} where
    pub in_param : Opds (Go {0}) 𝓛 (‵ T ∷ ‵ P ∷ ‵ c ∷ ‵ d ∷ Γ) E xs vs → Opds (Go {0}) 𝓛 (‵ T ∷ ‵ (fsep (fsep c d) P) ∷ Γ) E xs vs
    in_param r = opds_via (qed 𝓛 (‵ T ∷ ‵ (fsep (fsep c d) P) ∷ Γ) ∵ move ! (1 ∷ []) $ fsplit ! $ fsplit ! $ move ! (3 ∷ 2 ∷ []) $ done !)
        (qed 𝓛 (‵ T ∷ ‵ P ∷ ‵ c ∷ ‵ d ∷ Γ) ∵ move ! (2 ∷ 3 ∷ 1 ∷ []) $ fjoin ! $ fjoin ! $ move ! (1 ∷ []) $ done !) r

    pub in_temp : {C : Fml} → Opds (Go {0}) 𝓛 (‵ T ∷ ‵ P ∷ ‵ c ∷ ‵ d ∷ ‵ C ∷ Γ) E xs vs → Opds (Go {0}) 𝓛 (‵ (fsep (fsep c d) T) ∷ ‵ (fsep C P) ∷ Γ) E xs vs
    in_temp {C} r = opds_via (qed 𝓛 (‵ (fsep (fsep c d) T) ∷ ‵ (fsep C P) ∷ Γ) ∵ fsplit ! $ fsplit ! $ move ! (3 ∷ []) $ fsplit ! $ move ! (4 ∷ 1 ∷ 2 ∷ 3 ∷ 0 ∷ []) $ done !)
        (qed 𝓛 (‵ T ∷ ‵ P ∷ ‵ c ∷ ‵ d ∷ ‵ C ∷ Γ) ∵ move ! (2 ∷ 3 ∷ 0 ∷ []) $ fjoin ! $ fjoin ! $ move ! (2 ∷ 1 ∷ []) $ fjoin ! $ move ! (1 ∷ []) $ done !) r

    pub in_second : {B C : Fml} → Opds (Go {0}) 𝓛 (‵ T ∷ ‵ P ∷ ‵ c ∷ ‵ d ∷ ‵ B ∷ ‵ C ∷ Γ) E xs vs → Opds (Go {0}) 𝓛 (‵ (fsep B (fsep (fsep c d) T)) ∷ ‵ (fsep C P) ∷ Γ) E xs vs
    in_second {B} {C} r = opds_via (qed 𝓛 (‵ (fsep B (fsep (fsep c d) T)) ∷ ‵ (fsep C P) ∷ Γ) ∵ fsplit ! $ move ! (1 ∷ []) $ fsplit ! $ fsplit ! $ move ! (4 ∷ []) $ fsplit ! $ move ! (4 ∷ 1 ∷ 2 ∷ 3 ∷ 5 ∷ 0 ∷ []) $ done !)
        (qed 𝓛 (‵ T ∷ ‵ P ∷ ‵ c ∷ ‵ d ∷ ‵ B ∷ ‵ C ∷ Γ) ∵ move ! (2 ∷ 3 ∷ 0 ∷ []) $ fjoin ! $ fjoin ! $ move ! (2 ∷ 0 ∷ []) $ fjoin ! $ move ! (2 ∷ 1 ∷ []) $ fjoin ! $ move ! (1 ∷ []) $ done !) r

module _ {M : Type 1} {𝓤 : Ura M} (𝓛 : Logic 𝓤) {n m : ℕ} (κs : Lfts n) (qs : Shares n) where
  -- the tokens of the parameters and of the answer, as they come, and apart: of what is read, of what is lent on, and of the answer
  abbrev all_toks : (ks : List Kind) → Ahead n m ks → SProp 𝓤
  all_toks ks v = toks 𝓛 (lifetimes ks) (v.lfts κs) (v.shares qs)

  abbrev lent_toks : (ks : List Kind) → Ahead n m ks → SProp 𝓤
  lent_toks ks v = toks 𝓛 (handed ks) (handed_lfts ks (v.lfts κs)) (handed_shares ks (v.shares qs))

  abbrev pub Toks : (ks : List Kind) → Ahead n m ks → Item 𝓤
  Toks ks v = ‵ (read_toks κs qs (params ks v)) ⊛ raw (lent_toks ks v) ⊛ ‵ (flft ((own ks v).lft κs) ((own ks v).share qs))

  pub toks_out : (ks : List Kind) (v : Ahead n m ks) → ent 𝓤 (all_toks ks v) (mean 𝓛 (Toks ks v))
  toks_out [] v = qed 𝓛 (‵ (flft (v.lfts κs).0 (v.shares qs).0) ∷ raw (emp 𝓤) ∷ []) ∵ nothing ! $ move ! (0 ∷ 2 ∷ 1 ∷ []) $ done !
  toks_out (number w ∷ ks) v = toks_out ks (past_number v)
  toks_out (struct S ∷ ks) v = qed 𝓛 (‵ (flft (v.lfts κs).0 (v.shares qs).0) ∷ raw (all_toks ks (past_struct v)) ∷ []) ∵ move ! (1 ∷ []) $ use1 𝓛 (Toks ks (past_struct v)) (toks_out ks (past_struct v)) $ split3 ! $ move ! (3 ∷ 0 ∷ []) $ fjoin ! $ done !
  toks_out (slice w ∷ ks) v = qed 𝓛 (‵ (flft (v.lfts κs).0 (v.shares qs).0) ∷ raw (all_toks ks (past_slice v)) ∷ []) ∵ move ! (1 ∷ []) $ use1 𝓛 (Toks ks (past_slice v)) (toks_out ks (past_slice v)) $ split3 ! $ move ! (3 ∷ 1 ∷ []) $ join ! $ move ! (1 ∷ 0 ∷ 2 ∷ []) $ done !
  toks_out (area ∷ ks) v = qed 𝓛 (‵ (flft (v.lfts κs).0 (v.shares qs).0) ∷ raw (all_toks ks (past_area v)) ∷ []) ∵ move ! (1 ∷ []) $ use1 𝓛 (Toks ks (past_area v)) (toks_out ks (past_area v)) $ split3 ! $ move ! (3 ∷ 1 ∷ []) $ join ! $ move ! (1 ∷ 0 ∷ 2 ∷ []) $ done !

  pub toks_back : (ks : List Kind) (v : Ahead n m ks) → ent 𝓤 (mean 𝓛 (Toks ks v)) (all_toks ks v)
  toks_back [] v = qed 𝓛 (Toks [] v ∷ []) ∵ split3 ! $ move ! (2 ∷ 1 ∷ []) $ keep ! (0 ∷ 1 ∷ []) $ done !
  toks_back (number w ∷ ks) v = toks_back ks (past_number v)
  toks_back (struct S ∷ ks) v = qed 𝓛 (Toks (struct S ∷ ks) v ∷ []) ∵ split3 ! $ fsplit ! $ move ! (2 ∷ 3 ∷ []) $ join ! $ move ! (2 ∷ 0 ∷ []) $ join ! $ use1 𝓛 (raw (all_toks ks (past_struct v))) (toks_back ks (past_struct v)) $ move ! (1 ∷ []) $ done !
  toks_back (slice w ∷ ks) v = qed 𝓛 (Toks (slice w ∷ ks) v ∷ []) ∵ split3 ! $ move ! (1 ∷ []) $ use1 𝓛 (‵ (flft (v.lfts κs).0 (v.shares qs).0) ⊛ raw (lent_toks ks (past_slice v))) (id⊢ 𝓤 _) $ split ! $
      move ! (1 ∷ 3 ∷ []) $ join ! $ move ! (2 ∷ 0 ∷ []) $ join ! $ use1 𝓛 (raw (all_toks ks (past_slice v))) (toks_back ks (past_slice v)) $ move ! (1 ∷ []) $ done !
  toks_back (area ∷ ks) v = qed 𝓛 (Toks (area ∷ ks) v ∷ []) ∵ split3 ! $ move ! (1 ∷ []) $ use1 𝓛 (‵ (flft (v.lfts κs).0 (v.shares qs).0) ⊛ raw (lent_toks ks (past_area v))) (id⊢ 𝓤 _) $ split ! $
      move ! (1 ∷ 3 ∷ []) $ join ! $ move ! (2 ∷ 0 ∷ []) $ join ! $ use1 𝓛 (raw (all_toks ks (past_area v))) (toks_back ks (past_area v)) $ move ! (1 ∷ []) $ done !

-- the borrow of an area, which is had again once the callee has returned
abbrev pub area_bor : Lft → MutBor (List ℕ) → Fml
area_bor κ x = fbor κ (Holds (Arr (Holey (mem u8)) (length x.now)) x.ref_ptr.0 x.ref_ptr.1 x.ghost_name)

-- ---- the call's parameters: those, and the answer N at the lifetime o

module _ {n m : ℕ} (N : Lendable) (o : Life n) where
  abbrev slot : Param n m → Slot n
  slot (passed w) = plain (λ _. UInt w)
  slot (copied ℓ S) = plain (λ κs. ShrRef (named ℓ.index) (ℓ.lft κs) (row S.decl))
  slot (shared ℓ i w) = plain (λ κs. ShrSlice (named ℓ.index) (ℓ.lft κs) (UInt w))
  slot (given ℓ i) = plain (λ κs. MutSlice (named ℓ.index) (ℓ.lft κs) u8)

  abbrev pub slots : List (Param n m) → List (Slot n)
  slots [] = plain (λ κs. MutRef (named o.index) (o.lft κs) (row N.decl)) ∷ []
  slots (x ∷ xs) = slot x ∷ slots xs

  abbrev pub stays : (xs : List (Param n m)) → Stays (slots xs) (all yes (slots xs))
  stays [] = (record { fit = λ κs x w. Unit {0}; has = λ κs x w. (MutRef (named o.index) (o.lft κs) (row N.decl)).own_val (at_last x w) }, tt)
  stays (passed w ∷ xs) = (stay_dropped (slot (passed w)) yes, stays xs)
  stays (copied ℓ S ∷ xs) = (stay_dropped (slot (copied ℓ S)) yes, stays xs)
  stays (shared ℓ i w ∷ xs) = (stay_dropped (slot (shared ℓ i w)) yes, stays xs)
  stays (given ℓ i ∷ xs) = (record { fit = λ κs x ws. length ws ≡ length x.now; has = λ κs x ws vs. fsep (finally u8 x.ghost_name ws) (area_bor (ℓ.lft κs) x) }, stays xs)

  module _ {M : Type 1} {𝓤 : Ura M} (𝓛 : Logic 𝓤) where
    pub goes : (xs : List (Param n m)) → AllGo 𝓛 n (slots xs) (all yes (slots xs)) (stays xs)
    goes [] = ((λ κs x f vs ok. Goes-ref 𝓛 1 0 tt (plain (λ _. row N.decl)) (o.lft κs, tt) x f vs ok), tt)
    goes (passed w ∷ xs) = (Goes-dropped 𝓛 n (slot (passed w)) yes (λ κs x f. refl), goes xs)
    goes (copied ℓ S ∷ xs) = (Goes-dropped 𝓛 n (slot (copied ℓ S)) yes (λ κs x f. refl), goes xs)
    goes (shared ℓ i w ∷ xs) = (Goes-dropped 𝓛 n (slot (shared ℓ i w)) yes (λ κs x f. refl), goes xs)
    goes (given ℓ i ∷ xs) = ((λ κs x f vs ok. Goes-gave_slice 𝓛 1 0 tt (plain (λ _. u8)) (ℓ.lft κs, tt) x f vs ok), goes xs)

  module _ (κs : Lfts n) where
    abbrev pub Types : List (Param n m) → List RattleType
    Types xs = types_at (slots xs) κs

    abbrev pub answer : (xs : List (Param n m)) → Denots (Types xs) → MutBor N.decl.D
    answer [] a = a.0
    answer (x ∷ xs) a = answer xs a.1

    abbrev pub handed_on : (κi : Lfts m) (xs : List (Param n m)) → Denots (Types xs) → Denots (Rows κi xs)
    handed_on κi [] a = tt
    handed_on κi (passed w ∷ xs) a = (a.0, handed_on κi xs a.1)
    handed_on κi (copied ℓ S ∷ xs) a = (a.0.now, handed_on κi xs a.1)
    handed_on κi (shared ℓ i w ∷ xs) a = (a.0, handed_on κi xs a.1)
    handed_on κi (given ℓ i ∷ xs) a = (a.0, handed_on κi xs a.1)

    -- at exit: what is stored in the answer, and what is left in the areas
    abbrev pub stored : (xs : List (Param n m)) → Outs κs (slots xs) (all yes (slots xs)) → N.decl.D
    stored [] e = e.0.now
    stored (x ∷ xs) e = stored xs e.1

    abbrev pub left_out : (xs : List (Param n m)) → Outs κs (slots xs) (all yes (slots xs)) → Areas xs
    left_out [] e = tt
    left_out (passed w ∷ xs) e = left_out xs e.1
    left_out (copied ℓ S ∷ xs) e = left_out xs e.1
    left_out (shared ℓ i w ∷ xs) e = left_out xs e.1
    left_out (given ℓ i ∷ xs) e = (e.0.now, left_out xs e.1)

    -- the last values, given both; each area is as long as it was
    abbrev pub fins : (xs : List (Param n m)) (a : Denots (Types xs)) → N.decl.D → Areas xs → Fins κs (slots xs) (all yes (slots xs)) a
    fins [] a r zs = (r, tt)
    fins (passed w ∷ xs) a r zs = (tt, fins xs a.1 r zs)
    fins (copied ℓ S ∷ xs) a r zs = (tt, fins xs a.1 r zs)
    fins (shared ℓ i w ∷ xs) a r zs = (tt, fins xs a.1 r zs)
    fins (given ℓ i ∷ xs) a r zs = (zs.0, fins xs a.1 r zs.1)

    pub outs_are : (xs : List (Param n m)) (a : Denots (Types xs)) (r : N.decl.D) (zs : Areas xs)
        → (P : N.decl.D → Areas xs → Type 0) → P r zs → P (stored xs (outs κs (slots xs) (all yes (slots xs)) a (fins xs a r zs))) (left_out xs (outs κs (slots xs) (all yes (slots xs)) a (fins xs a r zs)))
    outs_are [] a r zs P e = e
    outs_are (passed w ∷ xs) a r zs P e = outs_are xs a.1 r zs P e
    outs_are (copied ℓ S ∷ xs) a r zs P e = outs_are xs a.1 r zs P e
    outs_are (shared ℓ i w ∷ xs) a r zs P e = outs_are xs a.1 r zs P e
    outs_are (given ℓ i ∷ xs) a r zs P e = outs_are xs a.1 r zs.1 (λ y ys. P y (zs.0, ys)) e

    abbrev pub AsLong : (xs : List (Param n m)) → Denots (Types xs) → Areas xs → Type 0
    AsLong [] a zs = Unit {0}
    AsLong (passed w ∷ xs) a zs = AsLong xs a.1 zs
    AsLong (copied ℓ S ∷ xs) a zs = AsLong xs a.1 zs
    AsLong (shared ℓ i w ∷ xs) a zs = AsLong xs a.1 zs
    AsLong (given ℓ i ∷ xs) a zs = (length zs.0 ≡ length a.0.now) × AsLong xs a.1 zs.1

    pub fits : (xs : List (Param n m)) (a : Denots (Types xs)) (r : N.decl.D) (zs : Areas xs) → AsLong xs a zs → fits_of κs (slots xs) (all yes (slots xs)) (stays xs) a (fins xs a r zs)
    fits [] a r zs l = (tt, tt)
    fits (passed w ∷ xs) a r zs l = (tt, fits xs a.1 r zs l)
    fits (copied ℓ S ∷ xs) a r zs l = (tt, fits xs a.1 r zs l)
    fits (shared ℓ i w ∷ xs) a r zs l = (tt, fits xs a.1 r zs l)
    fits (given ℓ i ∷ xs) a r zs l = (l.0, fits xs a.1 r zs.1 l.1)

    -- the machine values of what is passed
    abbrev pub spells : (xs : List (Param n m)) → Spells (Types xs)
    spells [] = (mut_vals, tt)
    spells (passed w ∷ xs) = (uint_vals w, spells xs)
    spells (copied ℓ S ∷ xs) = (shr_vals, spells xs)
    spells (shared ℓ i w ∷ xs) = (shr_slice_vals, spells xs)
    spells (given ℓ i ∷ xs) = (mut_slice_vals, spells xs)

    pub tells : (xs : List (Param n m)) → Tellss (Types xs) (Ises (Types xs)) (spells xs)
    tells [] = (mut_Tells (named o.index) (o.lft κs) (row N.decl), tt)
    tells (passed w ∷ xs) = (uint_Tells w, tells xs)
    tells (copied ℓ S ∷ xs) = (shr_Tells (named ℓ.index) (ℓ.lft κs) (row S.decl), tells xs)
    tells (shared ℓ i w ∷ xs) = (shr_slice_Tells (named ℓ.index) (ℓ.lft κs) (UInt w), tells xs)
    tells (given ℓ i ∷ xs) = (mut_slice_Tells (named ℓ.index) (ℓ.lft κs) u8, tells xs)

    abbrev pub vals : (xs : List (Param n m)) → Denots (Types xs) → Valss (Types xs)
    vals xs a = valss (Types xs) (spells xs) a

    -- the values in the parameters' locals and in the temporaries
    abbrev pub param_vals : (xs : List (Param n m)) → Denots (Types xs) → Each Val (param_types xs)
    param_vals [] a = tt
    param_vals (passed w ∷ xs) a = (vint w a.0, param_vals xs a.1)
    param_vals (copied ℓ S ∷ xs) a = (read_ptr_of a.0, param_vals xs a.1)
    param_vals (shared ℓ i w ∷ xs) a = (read_slice_of a.0, param_vals xs a.1)
    param_vals (given ℓ i ∷ xs) a = (slice_of a.0, param_vals xs a.1)

    abbrev pub temp_vals : (xs : List (Param n m)) → Denots (Types xs) → Each Val (temp_types xs)
    temp_vals [] a = tt
    temp_vals (passed w ∷ xs) a = temp_vals xs a.1
    temp_vals (copied ℓ S ∷ xs) a = (LL.val S.decl S.laws a.0.now, temp_vals xs a.1)
    temp_vals (shared ℓ i w ∷ xs) a = temp_vals xs a.1
    temp_vals (given ℓ i ∷ xs) a = (ptr_of a.0, (slice_of a.0, temp_vals xs a.1))

    -- the structs that are lent; the slices and areas that are handed on, and what comes back of them
    abbrev pub borrows : (xs : List (Param n m)) → Denots (Types xs) → Fml
    borrows [] a = ftrue
    borrows (passed w ∷ xs) a = borrows xs a.1
    borrows (copied ℓ S ∷ xs) a = fsep (hidden_shr (row S.decl) (ℓ.lft κs) a.0.now a.0.ref_ptr.0 a.0.ref_ptr.1) (borrows xs a.1)
    borrows (shared ℓ i w ∷ xs) a = borrows xs a.1
    borrows (given ℓ i ∷ xs) a = borrows xs a.1

    abbrev pub slices : (xs : List (Param n m)) → Denots (Types xs) → Fml
    slices [] a = ftrue
    slices (passed w ∷ xs) a = slices xs a.1
    slices (copied ℓ S ∷ xs) a = slices xs a.1
    slices (shared ℓ i w ∷ xs) a = fsep ((ShrSlice (named ℓ.index) (ℓ.lft κs) (UInt w)).own_val a.0 (shr_slice_vals a.0)) (slices xs a.1)
    slices (given ℓ i ∷ xs) a = fsep ((MutSlice (named ℓ.index) (ℓ.lft κs) u8).own_val a.0 (mut_slice_vals a.0)) (slices xs a.1)

    abbrev pub finals : (xs : List (Param n m)) → Denots (Types xs) → Areas xs → Fml
    finals [] a zs = ftrue
    finals (passed w ∷ xs) a zs = finals xs a.1 zs
    finals (copied ℓ S ∷ xs) a zs = finals xs a.1 zs
    finals (shared ℓ i w ∷ xs) a zs = finals xs a.1 zs
    finals (given ℓ i ∷ xs) a zs = fsep (fsep (finally u8 a.0.ghost_name zs.0) (area_bor (ℓ.lft κs) a.0)) (finals xs a.1 zs.1)

    -- what is known of the numbers and of the copies
    abbrev pub Known : (xs : List (Param n m)) → Denots (Types xs) → Type 0
    Known [] a = Unit {0}
    Known (passed w ∷ xs) a = Is (UInt w) a.0 (vint w a.0 ∷ []) × Known xs a.1
    Known (copied ℓ S ∷ xs) a = Is (row S.decl) a.0.now (LL.vals S.decl S.laws a.0.now) × Known xs a.1
    Known (shared ℓ i w ∷ xs) a = Known xs a.1
    Known (given ℓ i ∷ xs) a = Known xs a.1

    -- what the callee leaves in the areas
    abbrev pub Left : (κi : Lfts m) (xs : List (Param n m)) (a : Denots (Types xs)) → Fins κi (inners xs) (all yes (inners xs)) (handed_on κi xs a) → Areas xs
    Left κi xs a ws = left_in κi xs (outs κi (inners xs) (all yes (inners xs)) (handed_on κi xs a) ws)

    module _ {M : Type 1} {𝓤 : Ura M} {𝓛 : Logic 𝓤} where
      -- what the parameters own at entry, and what is had of them at exit; the answer's borrow stands open for the walk
      open 𝓛 use {H}

      pub begins : (xs : List (Param n m)) (a : Denots (Types xs)) {Γ : List (Item 𝓤)} {G : Goal 𝓤 H}
          → Sq 𝓛 (‵ (borrows xs a) ∷ ‵ (slices xs a) ∷ ‵ (fobs (answer xs a).ghost_name ((row N.decl).coded.code (answer xs a).now))
          ∷ ‵ (fbor (o.lft κs) (Holds (mem (row N.decl)) (answer xs a).ref_ptr.0 (answer xs a).ref_ptr.1 (answer xs a).ghost_name)) ∷ Γ) G
          → Sq 𝓛 (‵ (owns (Types xs) a (vals xs a)) ∷ Γ) G
      begins [] a s = fsplit ! $ fsplit3 ! $ drop ! $ move ! (2 ∷ []) $ nothing ! $ s
      begins (passed w ∷ xs) a s = fsplit ! $ drop ! $ begins xs a.1 s
      begins (copied ℓ S ∷ xs) a s = fsplit ! $ fsplit ! $ drop ! $ move ! (1 ∷ []) $ begins xs a.1 (move ! (4 ∷ 0 ∷ []) $ fjoin ! $ s)
      begins (shared ℓ i w ∷ xs) a s = fsplit ! $ move ! (1 ∷ []) $ begins xs a.1 (move ! (4 ∷ 1 ∷ []) $ fjoin ! $ move ! (1 ∷ []) $ s)
      begins (given ℓ i ∷ xs) a s = fsplit ! $ move ! (1 ∷ []) $ begins xs a.1 (move ! (4 ∷ 1 ∷ []) $ fjoin ! $ move ! (1 ∷ []) $ s)

      pub ends : (xs : List (Param n m)) (a : Denots (Types xs)) (r : N.decl.D) (zs : Areas xs) {Γ : List (Item 𝓤)} {G : Goal 𝓤 H}
          → Sq 𝓛 (‵ (has_of κs (slots xs) (all yes (slots xs)) (stays xs) a (fins xs a r zs) (vals xs a)) ∷ Γ) G
          → Sq 𝓛 (‵ ((MutRef (named o.index) (o.lft κs) (row N.decl)).own_val (at_last (answer xs a) r) (mut_vals (answer xs a))) ∷ ‵ (finals xs a zs) ∷ Γ) G
      ends [] a r zs s = fjoin ! $ s
      ends (passed w ∷ xs) a r zs s = ends xs a.1 r zs (nothing ! $ fjoin ! $ s)
      ends (copied ℓ S ∷ xs) a r zs s = ends xs a.1 r zs (nothing ! $ fjoin ! $ s)
      ends (shared ℓ i w ∷ xs) a r zs s = ends xs a.1 r zs (nothing ! $ fjoin ! $ s)
      ends (given ℓ i ∷ xs) a r zs s = move ! (1 ∷ []) $ fsplit ! $ move ! (2 ∷ 1 ∷ []) $ ends xs a.1 r zs.1 (move ! (1 ∷ 0 ∷ []) $ fjoin ! $ s)

      -- the parameters are passed
      pub all_passed : (xs : List (Param n m)) (a : Denots (Types xs)) (bs : Each ℕ (param_types xs)) → Are (Types xs) (Ises (Types xs)) a (vals xs a)
          → {Γ : List (Item 𝓤)} {E : Env 𝓤 H} {g : Goal 𝓤 H} → Sq 𝓛 (‵ (cells (param_types xs) bs (param_vals xs a)) ∷ Γ) (passes E (ptr_of (answer xs a) ∷ []) g)
          → Sq 𝓛 (‵ (rooms (param_types xs) bs) ∷ Γ) (passes (env (param_types xs) bs E) (flat (Types xs) (vals xs a)) g)
      all_passed [] a bs is s = s
      all_passed (passed w ∷ xs) a bs is s = fsplit ! $ fsplit ! $ pass1 ! (init ! 0 refl ((uint_Lawful 𝓛 w).typed a.0 _ is.0).0) $ move ! (2 ∷ []) $ all_passed xs a.1 bs.1 is.1 (move ! (1 ∷ 2 ∷ []) $ fjoin ! $ fjoin ! $ s)
      all_passed (copied ℓ S ∷ xs) a bs is s = fsplit ! $ fsplit ! $ pass1 ! (init ! 0 refl (tt, tt)) $ move ! (2 ∷ []) $ all_passed xs a.1 bs.1 is.1 (move ! (1 ∷ 2 ∷ []) $ fjoin ! $ fjoin ! $ s)
      all_passed (shared ℓ i w ∷ xs) a bs is s = fsplit ! $ fsplit ! $ pass1 ! (init ! 0 refl ((shr_slice_Lawful 𝓛 (named ℓ.index) (ℓ.lft κs) (UInt w)).typed a.0 _ is.0).0) $ move ! (2 ∷ []) $ all_passed xs a.1 bs.1 is.1 (move ! (1 ∷ 2 ∷ []) $ fjoin ! $ fjoin ! $ s)
      all_passed (given ℓ i ∷ xs) a bs is s = fsplit ! $ fsplit ! $ pass1 ! (init ! 0 refl ((mut_slice_Lawful 𝓛 (named ℓ.index) (ℓ.lft κs) u8).typed a.0 _ is.0).0) $ move ! (2 ∷ []) $ all_passed xs a.1 bs.1 is.1 (move ! (1 ∷ 2 ∷ []) $ fjoin ! $ fjoin ! $ s)

      module _ {E : Env 𝓤 H} (F G : Env 𝓤 H) where
        -- each struct that is lent is copied, and each area lent on
        pub all_copied : {C : Calls 𝓤 H} {Λ : Loops 𝓤 H} {rest : Body} {e : Post 𝓤 H} (i t : ℕ) (xs : List (Param n m)) (qs : Shares n) (a : Denots (Types xs)) (bs : Each ℕ (param_types xs)) (cs : Each ℕ (temp_types xs))
            → At E i (env (param_types xs) bs F) → At E t (env (temp_types xs) cs G) → Are (Types xs) (Ises (Types xs)) a (vals xs a) → {Γ : List (Item 𝓤)}
            → (Known xs a → Sq 𝓛 (‵ (cells (temp_types xs) cs (temp_vals xs a)) ∷ ‵ (cells (param_types xs) bs (param_vals xs a)) ∷ ‵ (read_toks κs qs xs) ∷ Γ) (runs C Λ E rest e))
            → Sq 𝓛 (‵ (rooms (temp_types xs) cs) ∷ ‵ (cells (param_types xs) bs (param_vals xs a)) ∷ ‵ (borrows xs a) ∷ ‵ (read_toks κs qs xs) ∷ Γ) (runs C Λ E (copying i t xs rest) e)
        all_copied i t [] qs a bs cs at_p at-t is k = move ! (2 ∷ []) $ drop ! $ k tt
        all_copied i t (passed w ∷ xs) qs a bs cs at_p at-t is k =
            move ! (1 ∷ []) $ fsplit ! $ move ! (2 ∷ 1 ∷ 3 ∷ 4 ∷ 0 ∷ []) $ all_copied (suc i) t xs qs a.1 bs.1 cs (at_next at_p) at-t is.1 (λ known. move ! (3 ∷ 1 ∷ []) $ fjoin ! $ move ! (1 ∷ []) $ k (is.0, known))
        all_copied i t (copied ℓ S ∷ xs) qs a bs cs at_p at-t is k =
            fsplit ! $ fsplit ! $ move ! (3 ∷ []) $ fsplit ! $ fsplit ! $ move ! (6 ∷ []) $ fsplit ! $ move ! (8 ∷ []) $ fsplit ! $ move ! (2 ∷ 0 ∷ []) $
            looked ! tt S.decl S.laws S.copies a.0.now a.0.ref_ptr.0 a.0.ref_ptr.1 (λ q was.
            -- [the struct's cell; the open borrow; the shared borrow; the other tokens; the borrows; the parameter's cell; …; the cells; room for the copy; …; the rooms]
            assigns ! (of_opd ! (load ! (from_at at_p (hop ! (look ! 5 refl) (stop !))) (look_raw ! 0 refl))) (from_at at-t (stop !)) (init ! 8 refl ((LL.lawful S.decl S.laws 𝓛).typed a.0.now _ was).0) $
            shut ! tt S.decl S.laws S.pure q a.0.now was a.0.ref_ptr.0 a.0.ref_ptr.1 $ move ! (1 ∷ []) $ drop ! $ move ! (8 ∷ 5 ∷ 2 ∷ 1 ∷ []) $
            all_copied (suc i) (suc t) xs qs a.1 bs.1 cs.1 (at_next at_p) (at_next at-t) is.1 (λ known.
            move ! (6 ∷ 7 ∷ 0 ∷ []) $ fjoin ! $ fjoin ! $ move ! (4 ∷ 5 ∷ 1 ∷ []) $ fjoin ! $ fjoin ! $ move ! (3 ∷ 2 ∷ []) $ fjoin ! $ move ! (2 ∷ 1 ∷ []) $ k (was, known)))
        all_copied i t (shared ℓ h w ∷ xs) qs a bs cs at_p at-t is k =
            move ! (1 ∷ []) $ fsplit ! $ move ! (2 ∷ 1 ∷ 3 ∷ 4 ∷ 0 ∷ []) $ all_copied (suc i) t xs qs a.1 bs.1 cs (at_next at_p) at-t is.1 (λ known. move ! (3 ∷ 1 ∷ []) $ fjoin ! $ move ! (1 ∷ []) $ k known)
        all_copied i t (given ℓ h ∷ xs) qs a bs cs at_p at-t is k =
            fsplit ! $ fsplit ! $ move ! (2 ∷ []) $ fsplit ! $ fsplit ! $ move ! (5 ∷ []) $ fsplit ! $ fsplit ! $
            -- [the parameter's cell; …; the cells; room for the slice; …; the rooms; room for the pointer; …; the borrows; the tokens]
            assigns ! (addr ! (from_at at_p (fld ! refl (hop ! (look_in ! 0 (sub ! 0 refl (whole !))) (stop !))))) (from_at at-t (stop !)) (init ! 6 refl (tt, tt)) $
            assigns ! (agg ! (and_then ! (load ! (from_at at-t (stop !)) (look ! 6 refl)) (and_then ! (load ! (from_at at_p (fld ! refl (stop !))) (look_in ! 0 (sub ! 1 refl (whole !)))) (no_more !)))) (from_at (at_next at-t) (stop !)) (init ! 3 refl (tt, (tt, (record { fits = is.0.0.1.0 }, tt)))) $
            move ! (5 ∷ 2 ∷ 8 ∷ 9 ∷ []) $ all_copied (suc i) (suc (suc t)) xs qs a.1 bs.1 cs.1.1 (at_next at_p) (at_next (at_next at-t)) is.1 (λ known.
            move ! (5 ∷ 6 ∷ 0 ∷ []) $ fjoin ! $ fjoin ! $ move ! (5 ∷ 6 ∷ 0 ∷ []) $ fjoin ! $ fjoin ! $ move ! (3 ∷ 4 ∷ 1 ∷ []) $ fjoin ! $ fjoin ! $ move ! (1 ∷ []) $ k known)

      module _ (κi : Lfts m) where
        -- what the callee's parameters own
        pub gives : (xs : List (Param n m)) → Agree κs κi xs → (a : Denots (Types xs)) → Known xs a → {Γ : List (Item 𝓤)} {G : Goal 𝓤 H}
            → Sq 𝓛 (‵ (owns (Rows κi xs) (handed_on κi xs a) (inner_vals κi xs (handed_on κi xs a))) ∷ Γ) G → Sq 𝓛 (‵ (slices xs a) ∷ Γ) G
        gives [] e a known s = s
        gives (passed w ∷ xs) e a known s = gives xs e a.1 known.1 (owned ! (UInt w) (Is (UInt w)) (uint_Makes 𝓛 w) a.0 _ known.0 $ fjoin ! $ s)
        gives (copied ℓ S ∷ xs) e a known s = gives xs e a.1 known.1 (owned ! (row S.decl) (Is (row S.decl)) (LL.makes S.decl S.pure 𝓛) a.0.now _ known.0 $ fjoin ! $ s)
        gives (shared ℓ i w ∷ xs) e a known s = fsplit ! $ use1 𝓛 (‵ ((ShrSlice (named i.index) (i.lft κi) (UInt w)).own_val a.0 (shr_slice_vals a.0)))
            (subst (λ (κ : Lft). ent 𝓤 (sem 𝓛 ((ShrSlice (named ℓ.index) (ℓ.lft κs) (UInt w)).own_val a.0 (shr_slice_vals a.0))) (sem 𝓛 ((ShrSlice (named i.index) κ (UInt w)).own_val a.0 (shr_slice_vals a.0)))) e.0 (id⊢ 𝓤 _)) $
            move ! (1 ∷ []) $ gives xs e.1 a.1 known (move ! (1 ∷ 0 ∷ []) $ fjoin ! $ s)
        gives (given ℓ i ∷ xs) e a known s = fsplit ! $ use1 𝓛 (‵ ((MutSlice (named i.index) (i.lft κi) u8).own_val a.0 (mut_slice_vals a.0)))
            (subst (λ (κ : Lft). ent 𝓤 (sem 𝓛 ((MutSlice (named ℓ.index) (ℓ.lft κs) u8).own_val a.0 (mut_slice_vals a.0))) (sem 𝓛 ((MutSlice (named i.index) κ u8).own_val a.0 (mut_slice_vals a.0)))) e.0 (id⊢ 𝓤 _)) $
            move ! (1 ∷ []) $ gives xs e.1 a.1 known (move ! (1 ∷ 0 ∷ []) $ fjoin ! $ s)

        -- and what it leaves in the areas
        pub leaves : (xs : List (Param n m)) → Agree κs κi xs → (a : Denots (Types xs)) (ws : Fins κi (inners xs) (all yes (inners xs)) (handed_on κi xs a)) {Γ : List (Item 𝓤)} {G : Goal 𝓤 H}
            → (AsLong xs a (Left κi xs a ws) → Sq 𝓛 (‵ (finals xs a (Left κi xs a ws)) ∷ Γ) G) → Sq 𝓛 (‵ (lasts_of κi (inners xs) (all yes (inners xs)) (handed_on κi xs a) ws) ∷ Γ) G
        leaves [] e a ws k = k tt
        leaves (passed w ∷ xs) e a ws k = fsplit ! $ drop ! $ leaves xs e a.1 ws.1 k
        leaves (copied ℓ S ∷ xs) e a ws k = fsplit ! $ drop ! $ leaves xs e a.1 ws.1 k
        leaves (shared ℓ i w ∷ xs) e a ws k = fsplit ! $ drop ! $ leaves xs e.1 a.1 ws.1 k
        leaves (given ℓ i ∷ xs) e a ws k = fsplit ! $ fsplit ! $ as_long ! (λ long. move ! (1 ∷ []) $ use1 𝓛 (‵ (area_bor (ℓ.lft κs) a.0))
            (subst (λ (κ : Lft). ent 𝓤 (sem 𝓛 (area_bor (i.lft κi) a.0)) (sem 𝓛 (area_bor κ a.0))) (sym e.0) (id⊢ 𝓤 _)) $
            move ! (1 ∷ 0 ∷ []) $ fjoin ! $ move ! (1 ∷ []) $ leaves xs e.1 a.1 ws.1 (λ ls. move ! (1 ∷ 0 ∷ []) $ fjoin ! $ k (long, ls)))

        -- the operands are read
        pub all_read : {E : Env 𝓤 H} (F G : Env 𝓤 H) (i t : ℕ) (xs : List (Param n m)) (a : Denots (Types xs)) (bs : Each ℕ (param_types xs)) (cs : Each ℕ (temp_types xs))
            → At E i (env (param_types xs) bs F) → At E t (env (temp_types xs) cs G) → {Γ : List (Item 𝓤)}
            → Opds (Go {0}) 𝓛 (‵ (cells (temp_types xs) cs (temp_vals xs a)) ∷ ‵ (cells (param_types xs) bs (param_vals xs a)) ∷ Γ) E (operands i t xs) (flat (Rows κi xs) (inner_vals κi xs (handed_on κi xs a)))
        all_read F G i t [] a bs cs at_p at-t = no_more !
        all_read F G i t (passed w ∷ xs) a bs cs at_p at-t = in_param (and_then ! (load ! (from_at at_p (stop !)) (look ! 2 refl)) (all_read F G (suc i) t xs a.1 bs.1 cs (at_next at_p) at-t))
        all_read F G i t (copied ℓ S ∷ xs) a bs cs at_p at-t = in_temp (and_then ! (load ! (from_at at-t (stop !)) (look ! 2 refl)) (all_read F G (suc i) (suc t) xs a.1 bs.1 cs.1 (at_next at_p) (at_next at-t)))
        all_read F G i t (shared ℓ h w ∷ xs) a bs cs at_p at-t = in_param (and_then ! (load ! (from_at at_p (stop !)) (look ! 2 refl)) (all_read F G (suc i) t xs a.1 bs.1 cs (at_next at_p) at-t))
        all_read F G i t (given ℓ h ∷ xs) a bs cs at_p at-t = in_second (and_then ! (load ! (from_at (at_next at-t) (stop !)) (look ! 2 refl)) (all_read F G (suc i) (suc (suc t)) xs a.1 bs.1 cs.1.1 (at_next at_p) (at_next (at_next at-t))))
