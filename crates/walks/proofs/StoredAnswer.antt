-- A call of the form `*answer = g(x, .., y)`, with any list of parameters: its code, its contract and its callee's, and that it meets the one where the callee meets the other. Assumes nothing.
use types.Logic.{Logic}
use denote.Ref.{MutBor}
use Rattle.walks.proofs.Walk.{◌≡◌, refl, ℕ, suc, [], ◌∷◌, List, Ura, Key, ty_unit, local, value_local, place, deref, copy, opd_unit, rv_opd, seq, assign, call, return, Fn, Val, vunit, SProp, ent, emp, Model, Routine, Routines, Calls, Loops, Env, WpFn, Closed, fact, Lfts, Shares, toks, Running, tables, Item, ‵, raw, ⋆, ◌$◌, ◌∵◌, !, qed, by, move, use1, split3, join, fjoin3, feq_i, suffices, frame, done, look, init, store_raw, stop, hop, from, load, of_opd, unit_lit, assigns, land, returns, enter, alloc1, alloc0, params1, pass1, pass0, free0, FmC, Denots, flat, owns, Ises, Are, unit, heard, row, yes, plain, all, on_entry, Meets, triple_of, Contract, Triple, Clauses, Ended, closing, calls_at, cited, says, walk_of, ends_at, ptr_of, lent, opened, closed, answered, told, freed, asks, proves}
use denote.Struct.Laws as LL
use Rattle.walks.proofs.Parameters.{Lendable, Kind, lifetimes, handed, handed_lfts, handed_shares, Life, Param, Ahead, own, params, Nows, Areas, ty_of, ref_to, locals, param_types, temp_types, skip, copying, operands, inners, Rows, seen, left_in, inner_vals}
use Rattle.walks.proofs.Handing.{env, At, at_next, at_skip, read_toks, agrees, from_at, allocated, all_freed, opds_under, Toks, toks_out, toks_back, slots, stays, goes, Types, answer, handed_on, stored, left_out, fins, outs_are, AsLong, fits, spells, tells, vals, param_vals, temp_vals, finals, Left, begins, ends, all_passed, all_copied, gives, leaves, all_read}

-- the parameters of the call and of its callee, each at its own lifetimes, and the answer's lifetime
abbrev ahead : (ks : List Kind) → Ahead (lifetimes ks) (handed ks) ks
ahead ks = record { next = 0; lfts = λ κs. κs; shares = λ qs. qs; callee_next = 0; callee_lfts = λ κs. κs }

abbrev pub listed : (ks : List Kind) → List (Param (lifetimes ks) (handed ks))
listed ks = params ks (ahead ks)

abbrev last : (ks : List Kind) → Life (lifetimes ks)
last ks = own ks (ahead ks)

abbrev pub code : Key → List Kind → Lendable → Fn
code g ks N = record {
  lifetimes = lifetimes ks;
  outlives = [];
  ty_params = [];
  givens = 0;
  params = skip 1 (listed ks);
  locals = local ty_unit value_local ∷ locals (param_types (listed ks)) (local (ref_to (last ks) N) value_local ∷ local (ty_of N) value_local ∷ locals (temp_types (listed ks)) []);
  body = copying 1 (suc (suc (skip 1 (listed ks)))) (listed ks)
      (seq (call g (operands 1 (suc (suc (skip 1 (listed ks)))) (listed ks)) (place (suc (skip 1 (listed ks))) []))
      (seq (assign (place (skip 1 (listed ks)) (deref (ty_of N) ∷ [])) (rv_opd (copy (place (suc (skip 1 (listed ks))) []))))
      (seq (assign (place 0 []) (rv_opd opd_unit)) return)));
}

module _ (ks : List Kind) (N : Lendable) (Says : Nows (listed ks) → N.decl.D → Areas (listed ks) → Type 0) (g : Key) where
  abbrev n : ℕ
  n = lifetimes ks

  abbrev o : Life n
  o = last ks

  abbrev xs : List (Param n (handed ks))
  xs = listed ks

  abbrev pub Outer : Ended
  Outer = record { signature = record { lifetimes = n; outlives = []; params = slots N o xs; result = plain (λ _. unit) }; kept = all yes (slots N o xs) }

  abbrev pub Inner : Ended
  Inner = record { signature = record { lifetimes = handed ks; outlives = []; params = inners xs; result = plain (λ _. row N.decl) }; kept = all yes (inners xs) }

  abbrev Asked : (κs : Lfts n) → Denots (Types N o κs xs) → Denots (Rows (handed_lfts ks κs) xs)
  Asked κs a = handed_on N o κs (handed_lfts ks κs) xs a

  abbrev pub outer : {M : Type 1} (𝓤 : Ura M) → Clauses 𝓤 Outer
  outer 𝓤 κs a = record { ghost = Unit {0}; requires = λ _. emp 𝓤; ensures = λ _ _ e. fact 𝓤 (Says (seen (handed_lfts ks κs) xs (Asked κs a)) (stored N o κs xs e) (left_out N o κs xs e)) }

  abbrev pub inner : {M : Type 1} (𝓤 : Ura M) → Clauses 𝓤 Inner
  inner 𝓤 κi a = record { ghost = Unit {0}; requires = λ _. emp 𝓤; ensures = λ _ y e. fact 𝓤 (Says (seen κi xs a) y (left_in κi xs e)) }

  abbrev pub Callee : {M : Type 1} {𝓤 : Ura M} (𝓛 : Logic 𝓤) → Contract 𝓤
  Callee {𝓤 = 𝓤} 𝓛 = triple_of 𝓛 Inner.signature (closing 𝓛 Inner (inner 𝓤))

  module _ {M : Type 1} {𝓤 : Ura M} (𝓛 : Logic 𝓤) (κs : Lfts n) (qs : Shares n) (a : Denots (Types N o κs xs)) where
    open 𝓛 use {H}

    abbrev w : MutBor N.decl.D
    w = answer N o κs xs a

    abbrev bound : (walk_of 𝓛 Outer (stays N o xs) (outer 𝓤)).Ghost
    bound = ((κs, qs, tt, a, vals N o κs xs a), tt)

    abbrev Done : Val → SProp 𝓤
    Done = (walk_of 𝓛 Outer (stays N o xs) (outer 𝓤)).post bound

    abbrev κi : Lfts (handed ks)
    κi = handed_lfts ks κs

    abbrev to : (Callee 𝓛).Ghost
    to = ((κi, handed_shares ks qs, tt, Asked κs a, inner_vals κi xs (Asked κs a)), tt)

    abbrev s : Nows xs
    s = seen κi xs (Asked κs a)

    -- what is held when the call returns
    abbrev Held : N.decl.D → Areas xs → List (Item 𝓤)
    Held y zs = lent (row N.decl) (o.lft κs) (o.share qs) w y (‵ (finals N o κs xs a zs) ∷ raw (toks 𝓛 (handed ks) κi (handed_shares ks qs)) ∷ ‵ (read_toks κs qs xs) ∷ [])

    exits : (y : N.decl.D) (zs : Areas xs) → Says s y zs → AsLong N o κs xs a zs → ent 𝓤 (⋆ 𝓛 (Held y zs)) (Done vunit)
    exits y zs e long =
        qed 𝓛 (Held y zs) ∵ suffices ! _ (ends_at 𝓛 Outer (stays N o xs) (outer 𝓤) bound vunit tt (fins N o κs xs a y zs) (fits N o κs xs a y zs long)) $
        says ! (outs_are N o κs xs a y zs (Says s) e) $
        move ! (4 ∷ 2 ∷ []) $ join ! $ move ! (4 ∷ 0 ∷ []) $ join ! $ use1 𝓛 (raw (toks 𝓛 n κs qs)) (toks_back 𝓛 κs qs ks (ahead ks)) $ frame ! $
        feq_i ! (List Val) (ptr_of w ∷ []) (ptr_of w ∷ []) refl $ fjoin3 ! $ ends N o κs xs a y zs (feq_i ! (List Val) (vunit ∷ []) (vunit ∷ []) refl $ move ! (1 ∷ 0 ∷ []) $ done !)

    module _ (C : Calls 𝓤 H) (Λ : Loops 𝓤 H) (fm : FmC 𝓤 H 𝓛.laws C) (known : Triple 𝓤 (C g) (Callee 𝓛)) where
      walk : Are (Types N o κs xs) (Ises (Types N o κs xs)) a (vals N o κs xs a)
          → ent 𝓤 (on_entry 𝓛 Outer.signature κs qs a (vals N o κs xs a)) (WpFn 𝓤 H C Λ (code g ks N) (flat (Types N o κs xs) (vals N o κs xs a)) Done)
      walk are =
          qed 𝓛 (raw (toks 𝓛 n κs qs) ∷ ‵ (owns (Types N o κs xs) a (vals N o κs xs a)) ∷ []) ∵ move ! (1 ∷ []) $ begins N o κs xs a (
          -- [the borrows; the slices; the answer's obs and borrow; the tokens]
          enter ! C Λ (code g ks N) (flat (Types N o κs xs) (vals N o κs xs a)) _ $ alloc1 ! (λ l. allocated (param_types xs) (λ bs. alloc1 ! (λ la. alloc1 ! (λ lr. allocated (temp_types xs) (λ cs. alloc0 ! $
          let F : Env 𝓤 H = (ref_to o N, la) ∷ (ty_of N, lr) ∷ env (temp_types xs) cs [] in
          let E : Env 𝓤 H = (ty_unit, l) ∷ env (param_types xs) bs F in
          let at_p : At E 1 (env (param_types xs) bs F) = record { at = refl } in
          let at_a : At E (skip 1 xs) F = at_skip 1 xs bs at_p in
          let at-r : At E (suc (skip 1 xs)) ((ty_of N, lr) ∷ env (temp_types xs) cs []) = at_next at_a in
          let at-t : At E (suc (suc (skip 1 xs))) (env (temp_types xs) cs []) = at_next at-r in
          params1 ! $ move ! (5 ∷ []) $ all_passed N o κs xs a bs are (pass1 ! (init ! 4 refl (tt, tt)) $ pass0 ! $
          -- [the parameters; room for the copies, for the result; …; the answer's pointer; …; room for _0; …; the borrows; the slices; the answer's obs and borrow; the tokens]
          move ! (12 ∷ []) $ use1 𝓛 (Toks 𝓛 κs qs ks (ahead ks)) (toks_out 𝓛 κs qs ks (ahead ks)) $ split3 ! $ move ! (4 ∷ 3 ∷ 11 ∷ 0 ∷ []) $
          all_copied N o κs F [] 1 (suc (suc (skip 1 xs))) xs qs a bs cs at_p at-t are (λ copies.
          move ! (11 ∷ []) $ gives N o κs κi xs (agrees κs κi ks (ahead ks) refl) a copies (move ! (4 ∷ 0 ∷ []) $ join ! $ use1 𝓛 (raw ((Callee 𝓛).pre to)) (asks 𝓤 _) $
          calls_at ! fm (Callee 𝓛) known to (opds_under (all_read N o κs κi F [] 1 (suc (suc (skip 1 xs))) xs a bs cs at_p at-t)) (λ u.
          answered ! tt Inner (inner 𝓤) to u (λ y ws. heard ! (Says s y (Left N o κs κi xs a ws)) (λ e. leaves N o κs κi xs (agrees κs κi ks (ahead ks) refl) a ws (λ long. move ! (1 ∷ []) $ told ! (row N.decl) (LL.val N.decl N.laws) (LL.tells N.decl N.laws) y u (λ is.
          -- [the areas at last; the tokens lent on; the copies; the parameters; the other tokens; the answer's; room for the result; …; the answer's pointer; …; room for _0; …; the answer's obs and borrow]
          land ! (from_at at-r (stop !)) (init ! 6 refl ((LL.lawful N.decl N.laws 𝓛).typed y _ is).0) $ move ! (12 ∷ 13 ∷ 5 ∷ []) $
          opened ! tt N.decl N.laws w.now w.ref_ptr.0 w.ref_ptr.1 (λ _.
          assigns ! (of_opd ! (load ! (from_at at-r (stop !)) (look ! 9 refl))) (from_at at_a (hop ! (look ! 11 refl) (stop !))) (store_raw ! 0 refl ((LL.lawful N.decl N.laws 𝓛).typed y _ is).0) $
          closed ! tt N.decl N.laws N.pure y is w.ref_ptr.0 w.ref_ptr.1 $ assigns ! (of_opd ! (unit_lit !)) (from ! (stop !)) (init ! 12 refl (tt, tt)) $
          returns ! (look ! 12 refl) $ freed ! 12 refl refl $ move ! (6 ∷ []) $ all_freed (param_types xs) bs (param_vals N o κs xs a) (freed ! 9 refl refl $ freed ! 7 refl refl $ move ! (5 ∷ []) $
          all_freed (temp_types xs) cs (temp_vals N o κs xs a) (free0 ! $ by ! (exits y (Left N o κs κi xs a ws) e long))))))))))))))))))

  pub meets : {M : Type 1} {𝓤 : Ura M} (𝓛 : Logic 𝓤) (𝓜 : Model 𝓤 𝓛.H) (𝓡 : Running 𝓤 𝓛.H 𝓜) (γ : Routines) (k : Key) → Closed 𝓤 𝓛.H (tables 𝓤 𝓛.H 𝓜 𝓡 γ).C (tables 𝓤 𝓛.H 𝓜 𝓡 γ).Λ k (code g ks N)
      → (f : Routine) → γ g ≡ f → Triple 𝓤 (𝓡.run f) (Callee 𝓛) → Meets 𝓛 Outer.signature ((tables 𝓤 𝓛.H 𝓜 𝓡 γ).C k) (closing 𝓛 Outer (outer 𝓤))
  meets {𝓤 = 𝓤} 𝓛 𝓜 𝓡 γ k is f at_g known =
      proves 𝓛 𝓜 𝓡 Outer (stays N o xs) (outer 𝓤) γ k (code g ks N) is (goes N o 𝓛 xs) (λ κs. spells N o κs xs) (λ κs. tells N o κs xs)
      (λ fm κs qs bounds a h are. walk 𝓛 κs qs a (tables 𝓤 𝓛.H 𝓜 𝓡 γ).C (tables 𝓤 𝓛.H 𝓜 𝓡 γ).Λ fm (cited 𝓤 𝓛.H (Callee 𝓛) 𝓜 𝓡 γ g f at_g known) are)
