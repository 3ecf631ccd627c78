-- A call of the form `let s = g(*t, x, .., y); *t = s.table; *answer = s.answer;`, with any list of parameters after the table: its code, in which a field goes through a temporary to where it is stored, its contract and its callee's, and that it meets the one where the callee meets the other. Assumes nothing.
use types.Logic.{Logic}
use denote.Ref.{MutBor, mut_vals}
use Rattle.walks.proofs.Walk.{◌≡◌, refl, subst, Option, some, none, ℕ, suc, [], ◌∷◌, List, Ura, Key, Ty, named, ty_unit, local, value_local, place, deref, field, Operand, copy, opd_unit, rv_opd, seq, assign, call, return, Fn, Val, Vals, vint, vbool, vfloat, vptr, vcode, vstruct, vnil, vunit, get_v, field_of, SProp, ent, emp, fsep, flft, Model, Routine, Routines, Calls, Loops, Env, WpFn, Closed, fact, Lfts, Shares, toks, Running, tables, Item, Go, ‵, raw, ◌⊛◌, ⋆, ◌$◌, ◌∵◌, !, qed, by, move, drop, use1, split, split3, join, fsplit, fsplit3, fjoin, fjoin3, feq_i, suffices, frame, done, Reading, look, look_raw, init, store_raw, stop, hop, fld, from, load, of_opd, unit_lit, and_then, assigns, land, returns, enter, alloc1, alloc0, params1, pass1, pass0, free0, whole, sub, look_in, FmC, Denots, flat, owns, Is, Ises, Are, unit, MutRef, at_last, mut_Tells, heard, owned, row, yes, plain, all, on_entry, Meets, triple_of, Contract, Triple, Clauses, Ended, closing, calls_at, cited, says, Stays, walk_of, Goes-ref, ends_at, ptr_of, lent, opened, closed, answered, told, freed, asks, proves}
use denote.Struct.Laws as LL
use Rattle.walks.proofs.Parameters.{Lendable, Kind, lifetimes, handed, handed_lfts, handed_shares, Life, Param, Ahead, own, params, Nows, Areas, ty_of, ref_to, locals, param_types, temp_types, skip, skip_temps, copying, operands, inners, Rows, seen, left_in, inner_vals}
use Rattle.walks.proofs.Handing.{env, At, at_next, at_skip, at_skip_temps, read_toks, agrees, from_at, allocated, all_freed, opds_under, Toks, toks_out, toks_back, slots, stays, goes, Types, answer, handed_on, stored, left_out, fins, outs_are, AsLong, fits, spells, tells, vals, param_vals, temp_vals, finals, Left, begins, ends, all_passed, all_copied, gives, leaves, all_read}

-- what comes after the table: the parameters of the call and of its callee, and the answer's lifetime
abbrev ahead : (ks : List Kind) → Ahead (suc (lifetimes ks)) (handed ks) ks
ahead ks = record { next = 1; lfts = λ κs. κs.1; shares = λ qs. qs.1; callee_next = 0; callee_lfts = λ κs. κs }

abbrev pub listed : (ks : List Kind) → List (Param (suc (lifetimes ks)) (handed ks))
listed ks = params ks (ahead ks)

abbrev last : (ks : List Kind) → Life (suc (lifetimes ks))
last ks = own ks (ahead ks)

abbrev first : (ks : List Kind) → Life (suc (lifetimes ks))
first ks = record { index = 0; lft = λ κs. κs.0; share = λ qs. qs.0 }

-- ---- a field of a struct

abbrev parts_of : Val → Vals
parts_of vunit = vnil
parts_of (vbool b) = vnil
parts_of (vint w n) = vnil
parts_of (vfloat f x) = vnil
parts_of (vptr b o) = vnil
parts_of (vcode ι) = vnil
parts_of (vstruct vs) = vs

abbrev offset : Option (Ty × ℕ) → ℕ
offset none = 0
offset (some e) = e.1

-- which it is, what it holds, and that it is a struct F: at a declared struct `lies` and `reads` hold by `refl`, and `is` is a projection of `LL.owed`
pub record Part (S F : Lendable) : Type 2 where
  pub index : ℕ
  pub get : S.decl.D → F.decl.D
  pub lies : field_of (ty_of S) index ≡ some (ty_of F, offset (field_of (ty_of S) index))
  pub reads : (x : S.decl.D) → get_v (parts_of (LL.val S.decl S.laws x)) index ≡ LL.val F.decl F.laws (get x)
  pub is : (x : S.decl.D) → Is (row S.decl) x (LL.vals S.decl S.laws x) → Is (row F.decl) (get x) (LL.vals F.decl F.laws (get x))

-- ---- the call

-- the local after the temporaries, which the table goes through
abbrev after : List Kind → ℕ
after ks = skip_temps (suc (suc (suc (skip 2 (listed ks))))) (listed ks)

abbrev pub code : Key → List Kind → (T N S : Lendable) → ℕ → ℕ → Fn
code g ks T N S table answer = record {
  lifetimes = suc (lifetimes ks);
  outlives = [];
  ty_params = [];
  givens = 0;
  params = skip 2 (listed ks);
  locals = local ty_unit value_local ∷ local (ref_to (first ks) T) value_local
      ∷ locals (param_types (listed ks)) (local (ref_to (last ks) N) value_local ∷ local (ty_of S) value_local ∷ local (ty_of T) value_local ∷ locals (temp_types (listed ks)) (local (ty_of T) value_local ∷ local (ty_of N) value_local ∷ []));
  body = seq (assign (place (suc (suc (skip 2 (listed ks)))) []) (rv_opd (copy (place 1 (deref (ty_of T) ∷ [])))))
      (copying 2 (suc (suc (suc (skip 2 (listed ks))))) (listed ks)
      (seq (call g (copy (place (suc (suc (skip 2 (listed ks)))) []) ∷ operands 2 (suc (suc (suc (skip 2 (listed ks))))) (listed ks)) (place (suc (skip 2 (listed ks))) []))
      (seq (assign (place (after ks) []) (rv_opd (copy (place (suc (skip 2 (listed ks))) (field table ∷ [])))))
      (seq (assign (place 1 (deref (ty_of T) ∷ [])) (rv_opd (copy (place (after ks) []))))
      (seq (assign (place (suc (after ks)) []) (rv_opd (copy (place (suc (skip 2 (listed ks))) (field answer ∷ [])))))
      (seq (assign (place (skip 2 (listed ks)) (deref (ty_of N) ∷ [])) (rv_opd (copy (place (suc (after ks)) []))))
      (seq (assign (place 0 []) (rv_opd opd_unit)) return)))))));
}

-- the callee says In of the table and what else is passed, of what it answers, and of what it leaves in the areas; the call says Out, which follows
module _ (ks : List Kind) (T N S : Lendable) (pt : Part S T) (pa : Part S N) (In : T.decl.D → Nows (listed ks) → S.decl.D → Areas (listed ks) → Type 0) (Out : T.decl.D → Nows (listed ks) → T.decl.D → N.decl.D → Areas (listed ks) → Type 0)
    (follows : (t : T.decl.D) (a : Nows (listed ks)) (x : S.decl.D) (z : Areas (listed ks)) → In t a x z → Out t a (pt.get x) (pa.get x) z) (g : Key) where
  abbrev n : ℕ
  n = suc (lifetimes ks)

  abbrev o : Life n
  o = last ks

  abbrev xs : List (Param n (handed ks))
  xs = listed ks

  abbrev pub Outer : Ended
  Outer = record {
    signature = record { lifetimes = n; outlives = []; params = plain (λ κs. MutRef (named 0) κs.0 (row T.decl)) ∷ slots N o xs; result = plain (λ _. unit) };
    kept = (yes, all yes (slots N o xs));
  }

  abbrev pub Inner : Ended
  Inner = record { signature = record { lifetimes = handed ks; outlives = []; params = plain (λ _. row T.decl) ∷ inners xs; result = plain (λ _. row S.decl) }; kept = (yes, all yes (inners xs)) }

  abbrev Asked : (κs : Lfts n) → Denots (Types N o κs xs) → Denots (Rows (handed_lfts ks κs.1) xs)
  Asked κs a = handed_on N o κs (handed_lfts ks κs.1) xs a

  abbrev pub outer : {M : Type 1} (𝓤 : Ura M) → Clauses 𝓤 Outer
  outer 𝓤 κs a = record { ghost = Unit {0}; requires = λ _. emp 𝓤; ensures = λ _ _ e. fact 𝓤 (Out a.0.now (seen (handed_lfts ks κs.1) xs (Asked κs a.1)) e.0.now (stored N o κs xs e.1) (left_out N o κs xs e.1)) }

  abbrev pub inner : {M : Type 1} (𝓤 : Ura M) → Clauses 𝓤 Inner
  inner 𝓤 κi a = record { ghost = Unit {0}; requires = λ _. emp 𝓤; ensures = λ _ x e. fact 𝓤 (In a.0 (seen κi xs a.1) x (left_in κi xs e.1)) }

  abbrev pub Callee : {M : Type 1} {𝓤 : Ura M} (𝓛 : Logic 𝓤) → Contract 𝓤
  Callee {𝓤 = 𝓤} 𝓛 = triple_of 𝓛 Inner.signature (closing 𝓛 Inner (inner 𝓤))

  abbrev stay : Stays Outer.signature.params Outer.kept
  stay = (record { fit = λ κs x w. Unit {0}; has = λ κs x w. (MutRef (named 0) κs.0 (row T.decl)).own_val (at_last x w) }, stays N o xs)

  abbrev made : Fn
  made = code g ks T N S pt.index pa.index

  module _ {M : Type 1} {𝓤 : Ura M} (𝓛 : Logic 𝓤) (κs : Lfts n) (qs : Shares n) (t : MutBor T.decl.D) (a : Denots (Types N o κs xs)) where
    open 𝓛 use {H}

    abbrev w : MutBor N.decl.D
    w = answer N o κs xs a

    abbrev bound : (walk_of 𝓛 Outer stay (outer 𝓤)).Ghost
    bound = ((κs, qs, tt, (t, a), (mut_vals t, vals N o κs xs a)), tt)

    abbrev Done : Val → SProp 𝓤
    Done = (walk_of 𝓛 Outer stay (outer 𝓤)).post bound

    abbrev κi : Lfts (handed ks)
    κi = handed_lfts ks κs.1

    abbrev to : (Callee 𝓛).Ghost
    to = ((κi, handed_shares ks qs.1, tt, (t.now, Asked κs a), (LL.vals T.decl T.laws t.now, inner_vals κi xs (Asked κs a))), tt)

    abbrev s : Nows xs
    s = seen κi xs (Asked κs a)

    abbrev opd_is : {Γ : List (Item 𝓤)} {E : Env 𝓤 H} {x : Operand} {u v : Val} → u ≡ v → Reading (Go {0}) 𝓛 Γ E x u → Reading (Go {0}) 𝓛 Γ E x v
    opd_is {Γ} {E} {x} e r = subst (λ (z : Val). Reading (Go {0}) 𝓛 Γ E x z) e r

    -- what is held when the call returns
    abbrev Held : S.decl.D → Areas xs → List (Item 𝓤)
    Held x zs = lent (row N.decl) (o.lft κs) (o.share qs) w (pa.get x) (lent (row T.decl) κs.0 qs.0 t (pt.get x)
        (‵ (finals N o κs xs a zs) ∷ raw (toks 𝓛 (handed ks) κi (handed_shares ks qs.1)) ∷ ‵ (read_toks κs qs xs) ∷ []))

    exits : (x : S.decl.D) (zs : Areas xs) → In t.now s x zs → AsLong N o κs xs a zs → ent 𝓤 (⋆ 𝓛 (Held x zs)) (Done vunit)
    exits x zs e long =
        qed 𝓛 (Held x zs) ∵ suffices ! _ (ends_at 𝓛 Outer stay (outer 𝓤) bound vunit tt (pt.get x, fins N o κs xs a (pa.get x) zs) (tt, fits N o κs xs a (pa.get x) zs long)) $
        says ! (outs_are N o κs xs a (pa.get x) zs (Out t.now s (pt.get x)) (follows t.now s x zs e)) $
        move ! (7 ∷ 2 ∷ []) $ join ! $ move ! (7 ∷ 0 ∷ []) $ join ! $ use1 𝓛 (raw (toks 𝓛 (lifetimes ks) κs.1 qs.1)) (toks_back 𝓛 κs qs ks (ahead ks)) $ move ! (5 ∷ 0 ∷ []) $ join ! $ frame ! $
        feq_i ! (List Val) (ptr_of w ∷ []) (ptr_of w ∷ []) refl $ fjoin3 ! $ move ! (0 ∷ 3 ∷ []) $ ends N o κs xs a (pa.get x) zs (
        move ! (1 ∷ 2 ∷ []) $ feq_i ! (List Val) (ptr_of t ∷ []) (ptr_of t ∷ []) refl $ fjoin3 ! $ fjoin ! $ feq_i ! (List Val) (vunit ∷ []) (vunit ∷ []) refl $ move ! (1 ∷ 0 ∷ []) $ done !)

    module _ (C : Calls 𝓤 H) (Λ : Loops 𝓤 H) (fm : FmC 𝓤 H 𝓛.laws C) (known : Triple 𝓤 (C g) (Callee 𝓛)) where
      walk : Are (Types N o κs xs) (Ises (Types N o κs xs)) a (vals N o κs xs a)
          → ent 𝓤 (on_entry 𝓛 Outer.signature κs qs (t, a) (mut_vals t, vals N o κs xs a)) (WpFn 𝓤 H C Λ made (ptr_of t ∷ flat (Types N o κs xs) (vals N o κs xs a)) Done)
      walk are =
          qed 𝓛 ((‵ (flft κs.0 qs.0) ⊛ raw (toks 𝓛 (lifetimes ks) κs.1 qs.1)) ∷ ‵ (fsep ((MutRef (named 0) κs.0 (row T.decl)).own_val t (mut_vals t)) (owns (Types N o κs xs) a (vals N o κs xs a))) ∷ []) ∵
          split ! $ move ! (2 ∷ []) $ fsplit ! $ fsplit3 ! $ drop ! $ move ! (2 ∷ []) $ begins N o κs xs a (
          -- [the borrows; the slices; the answer's obs and borrow; the table's; its token; the tokens]
          enter ! C Λ made (ptr_of t ∷ flat (Types N o κs xs) (vals N o κs xs a)) _ $ alloc1 ! (λ l. alloc1 ! (λ lt. allocated (param_types xs) (λ bs. alloc1 ! (λ la. alloc1 ! (λ ls. alloc1 ! (λ lc. allocated (temp_types xs) (λ cs. alloc1 ! (λ lu. alloc1 ! (λ lv. alloc0 ! $
          let G : Env 𝓤 H = (ty_of T, lu) ∷ (ty_of N, lv) ∷ [] in
          let F : Env 𝓤 H = (ref_to o N, la) ∷ (ty_of S, ls) ∷ (ty_of T, lc) ∷ env (temp_types xs) cs G in
          let E : Env 𝓤 H = (ty_unit, l) ∷ (ref_to (first ks) T, lt) ∷ env (param_types xs) bs F in
          let at-t : At E 1 ((ref_to (first ks) T, lt) ∷ env (param_types xs) bs F) = record { at = refl } in
          let at_p : At E 2 (env (param_types xs) bs F) = at_next at-t in
          let at_a : At E (skip 2 xs) F = at_skip 2 xs bs at_p in
          let at-s : At E (suc (skip 2 xs)) ((ty_of S, ls) ∷ (ty_of T, lc) ∷ env (temp_types xs) cs G) = at_next at_a in
          let at_c : At E (suc (suc (skip 2 xs))) ((ty_of T, lc) ∷ env (temp_types xs) cs G) = at_next at-s in
          let at-m : At E (suc (suc (suc (skip 2 xs)))) (env (temp_types xs) cs G) = at_next at_c in
          let at-u : At E (after ks) G = at_skip_temps (suc (suc (suc (skip 2 xs)))) xs cs at-m in
          let at-v : At E (suc (after ks)) ((ty_of N, lv) ∷ []) = at_next at-u in
          params1 ! $ pass1 ! (init ! 12 refl (tt, tt)) $ move ! (11 ∷ []) $ all_passed N o κs xs a bs are (pass1 ! (init ! 10 refl (tt, tt)) $ pass0 ! $
          move ! (20 ∷ 21 ∷ 22 ∷ []) $ opened ! tt T.decl T.laws t.now t.ref_ptr.0 t.ref_ptr.1 (λ was.
          -- [the table's cell; the open borrow; obs; auth; the parameters; room for what the answer goes through; …; for what the table goes through; …; for the copies, for the table's; …; for the result; …; the answer's pointer; …; the table's; …; room for _0; …; the borrows; the slices; the answer's obs and borrow; the tokens]
          assigns ! (of_opd ! (load ! (from_at at-t (hop ! (look ! 16 refl) (stop !))) (look_raw ! 0 refl))) (from_at at_c (stop !)) (init ! 10 refl ((LL.lawful T.decl T.laws 𝓛).typed t.now _ was).0) $
          move ! (24 ∷ []) $ use1 𝓛 (Toks 𝓛 κs qs ks (ahead ks)) (toks_out 𝓛 κs qs ks (ahead ks)) $ split3 ! $ move ! (12 ∷ 7 ∷ 23 ∷ 0 ∷ []) $
          all_copied N o κs F G 2 (suc (suc (suc (skip 2 xs)))) xs qs a bs cs at_p at-m are (λ copies.
          move ! (23 ∷ []) $ gives N o κs κi xs (agrees κs κi ks (ahead ks) refl) a copies (owned ! (row T.decl) (Is (row T.decl)) (LL.makes T.decl T.pure 𝓛) t.now _ was $ fjoin ! $ move ! (4 ∷ 0 ∷ []) $ join ! $ use1 𝓛 (raw ((Callee 𝓛).pre to)) (asks 𝓤 _) $
          calls_at ! fm (Callee 𝓛) known to (and_then ! (load ! (from_at at_c (stop !)) (look ! 13 refl)) (opds_under (all_read N o κs κi F G 2 (suc (suc (suc (skip 2 xs)))) xs a bs cs at_p at-m))) (λ u.
          answered ! tt Inner (inner 𝓤) to u (λ x ws. heard ! (In t.now s x (Left N o κs κi xs a ws.1)) (λ e. fsplit ! $ drop ! $ leaves N o κs κi xs (agrees κs κi ks (ahead ks) refl) a ws.1 (λ long. move ! (1 ∷ []) $
          told ! (row S.decl) (LL.val S.decl S.laws) (LL.tells S.decl S.laws) x u (λ is.
          land ! (from_at at-s (stop !)) (init ! 16 refl ((LL.lawful S.decl S.laws 𝓛).typed x _ is).0) $
          assigns ! (of_opd ! (opd_is (pt.reads x) (load ! (from_at at-s (fld ! pt.lies (stop !))) (look_in ! 16 (sub ! pt.index pt.lies (whole !)))))) (from_at at-u (stop !)) (init ! 12 refl ((LL.lawful T.decl T.laws 𝓛).typed (pt.get x) _ (pt.is x is)).0) $
          assigns ! (of_opd ! (load ! (from_at at-u (stop !)) (look ! 12 refl))) (from_at at-t (hop ! (look ! 20 refl) (stop !))) (store_raw ! 6 refl ((LL.lawful T.decl T.laws 𝓛).typed (pt.get x) _ (pt.is x is)).0) $
          move ! (6 ∷ 7 ∷ 8 ∷ 9 ∷ []) $ closed ! tt T.decl T.laws T.pure (pt.get x) (pt.is x is) t.ref_ptr.0 t.ref_ptr.1 $ move ! (23 ∷ 24 ∷ 8 ∷ []) $
          opened ! tt N.decl N.laws w.now w.ref_ptr.0 w.ref_ptr.1 (λ _.
          assigns ! (of_opd ! (opd_is (pa.reads x) (load ! (from_at at-s (fld ! pa.lies (stop !))) (look_in ! 18 (sub ! pa.index pa.lies (whole !)))))) (from_at at-v (stop !)) (init ! 12 refl ((LL.lawful N.decl N.laws 𝓛).typed (pa.get x) _ (pa.is x is)).0) $
          assigns ! (of_opd ! (load ! (from_at at-v (stop !)) (look ! 12 refl))) (from_at at_a (hop ! (look ! 20 refl) (stop !))) (store_raw ! 0 refl ((LL.lawful N.decl N.laws 𝓛).typed (pa.get x) _ (pa.is x is)).0) $
          closed ! tt N.decl N.laws N.pure (pa.get x) (pa.is x is) w.ref_ptr.0 w.ref_ptr.1 $ assigns ! (of_opd ! (unit_lit !)) (from ! (stop !)) (init ! 23 refl (tt, tt)) $
          returns ! (look ! 23 refl) $ freed ! 23 refl refl $ freed ! 21 refl refl $ move ! (9 ∷ []) $ all_freed (param_types xs) bs (param_vals N o κs xs a) (freed ! 18 refl refl $ freed ! 16 refl refl $ freed ! 14 refl refl $ move ! (8 ∷ []) $
          all_freed (temp_types xs) cs (temp_vals N o κs xs a) (freed ! 11 refl refl $ freed ! 9 refl refl $ free0 ! $ by ! (exits x (Left N o κs κi xs a ws.1) e long)))))))))))))))))))))))

  pub stores : {M : Type 1} {𝓤 : Ura M} (𝓛 : Logic 𝓤) (𝓜 : Model 𝓤 𝓛.H) (𝓡 : Running 𝓤 𝓛.H 𝓜) (γ : Routines) (k : Key) → Closed 𝓤 𝓛.H (tables 𝓤 𝓛.H 𝓜 𝓡 γ).C (tables 𝓤 𝓛.H 𝓜 𝓡 γ).Λ k made
      → (f : Routine) → γ g ≡ f → Triple 𝓤 (𝓡.run f) (Callee 𝓛) → Meets 𝓛 Outer.signature ((tables 𝓤 𝓛.H 𝓜 𝓡 γ).C k) (closing 𝓛 Outer (outer 𝓤))
  stores {𝓤 = 𝓤} 𝓛 𝓜 𝓡 γ k is f at_g known =
      proves 𝓛 𝓜 𝓡 Outer stay (outer 𝓤) γ k made is ((λ κs x z vs ok. Goes-ref 𝓛 1 0 tt (plain (λ _. row T.decl)) (κs.0, tt) x z vs ok), goes N o 𝓛 xs)
      (λ κs. (mut_vals, spells N o κs xs)) (λ κs. (mut_Tells (named 0) κs.0 (row T.decl), tells N o κs xs))
      (λ fm κs qs bounds a h are. walk 𝓛 κs qs a.0 a.1 (tables 𝓤 𝓛.H 𝓜 𝓡 γ).C (tables 𝓤 𝓛.H 𝓜 𝓡 γ).Λ fm (cited 𝓤 𝓛.H (Callee 𝓛) 𝓜 𝓡 γ g f at_g known) are.1)
