-- Steps that the walks of the calls share: a struct that is lent by `&mut` is opened, and closed once it was stored to; one that is lent by `&` is looked into; a callee's answer is taken apart; a store is made under a test; a local is freed; a walk proves that a function meets its contract.
-- Assumes nothing.
use mathlib.Core.Path.{◌≡◌, refl, sym, ap, subst}
use Prim.Native.Nat.{ℕ, zero}
use mathlib.Core.Bool.{Bool, not}
use mathlib.Core.List.{[], ◌∷◌, List}
use lib.Dec.{T}
use lib.ListN.{length}
use seplogic.Ra.Ura.{Ura}
use base.Fraction.{full_share}
use mir.Syntax.{Callee, Fn, Ty, Place, Body, Opd as Operand, Rv as RValue, skip, seq, assign, cond}
use mir.Raw.{raw as raw_ty}
use mir.Val.{Val, vbool, vptr, WT, has_ty}
use base.Logic.{SProp, ent, sep, emp, id⊢, via, comm∗, emp∗, fst∗, mono_r}
use base.Stored.{Gv}
use base.Fml.{Lft, GName, Share, Fml, feq, fsep, flft, fobs, fauth, fbor, fobor, fat, fdies}
use prog.Model.{Model}
use prog.Routine.{Env as Routines}
use prog.Wp.{Calls, Loops, Env, WpFn, Tables, Closed}
use types.Logic.{Logic}
use contract.Running.{Running, tables, tables_of}
use contract.Lifetimes.{Lfts, Shares, AllOutlive}
use types.Kit.{Item, Goal, Soaks, Seq, Step, step, ◌$◌, ‵, raw, some, later, ◌⊛◌, ⋆, mean, nth, del, put, pull, push, runs, frees, lands, Post, aim, move, use1, rewrite, split, fsplit, feq_l, pick, await}
use types.Run.{Opd, Rv, Finds, store_raw, assigns_last, first, skips, branches, exec, forget, free1}
use types.SemTy.{Body as Holds}
use sound.WpLaws.{FmC, fm_of, WpFn-mono}
use denote.RattleType.{RattleType, flat}
use denote.Memory.{mem, cell_at, part_at, hidden_shr}
use denote.Opens.{Shut}
use denote.Laws.{Is, Ises, Are, Spells, valss, Tells, Tellss, shows}
use denote.Ref.{Bor, MutBor}
use denote.Slice.{slice_val}
use denote.Signature.{type_at, types_at}
use denote.Steps.{only, opens, closes, looks, shuts, owned, facts}
use denote.Struct.Struct.{Plains}
use denote.Struct.Declared.{Declared, fields, row}
use denote.Struct.Steps.{spelt}
use denote.Struct.Laws as LL
use denote.Triple.Entry.{Args, Res, alive, on_entry}
use denote.Triple.Spec.{Meets, triple_of}
use denote.Triple.Table.{entered}
use denote.Triple.Clauses.{Clauses, Ended, Lasts, at_exit, lasts, closing}
use denote.Triple.Walked.{Stays, AllGo, walk_of, walked, walk_Meets}

-- the machine values of a reference and of a slice, lent by `&mut` and by `&`
abbrev pub ptr_of : {X : Type 0} → MutBor X → Val
ptr_of x = vptr x.ref_ptr.0 x.ref_ptr.1

abbrev pub read_ptr_of : {X : Type 0} → Bor X → Val
read_ptr_of x = vptr x.ref_ptr.0 x.ref_ptr.1

abbrev pub slice_of : MutBor (List ℕ) → Val
slice_of s = slice_val s.ref_ptr (length s.now)

abbrev pub read_slice_of : Bor (List ℕ) → Val
read_slice_of s = slice_val s.ref_ptr (length s.now)

-- a `&mut` that is held at the record h, with its lifetime's token, before what else is held
abbrev pub lent : {M : Type 1} {𝓤 : Ura M} (R : RattleType) (κ : Lft) (q : Share) (x : MutBor R.Denot) (h : R.Denot) → List (Item 𝓤) → List (Item 𝓤)
lent R κ q x h Γ = ‵ (fobs x.ghost_name (R.coded.code h)) ∷ ‵ (fbor κ (Holds (mem R) x.ref_ptr.0 x.ref_ptr.1 x.ghost_name)) ∷ ‵ (flft κ q) ∷ Γ

module _ {M : Type 1} {𝓤 : Ura M} {𝓛 : Logic 𝓤} {K : Type 0} {Γ : List (Item 𝓤)} where
  open 𝓛 use {H}

  module _ {G : Goal 𝓤 H} where
    -- a `&mut` is opened: what it holds lies in memory as its record's machine value
    pub opened : K → Soaks G → (T : Declared) (L : LL.Laws T) → {κ : Lft} {q : Share} {γ : GName} (h : T.D) (b o : ℕ)
        → (Is (row T) h (LL.vals T L h) → Seq K 𝓛 (‵ (cell_at full_share (row T).mir (LL.vals T L h) b o) ∷ ‵ (fobor κ q (Holds (mem (row T)) b o γ)) ∷ ‵ (fobs γ ((row T).coded.code h)) ∷ ‵ (fauth γ ((row T).coded.code h)) ∷ Γ) G)
        → Seq K 𝓛 (‵ (fobs γ ((row T).coded.code h)) ∷ ‵ (fbor κ (Holds (mem (row T)) b o γ)) ∷ ‵ (flft κ q) ∷ Γ) G
    opened t z T L h b o k = opens t z (row T) {h = h} b o (λ vs. spelt t (row T) (Is (row T)) (shows 𝓛 (row T)) (LL.vals T L) (LL.tells T L) full_share h vs b o $
        move t (1 ∷ []) $ facts t (row T) (Is (row T)) (shows 𝓛 (row T)) h (LL.vals T L h) k)

    -- and closed at the record that was stored
    pub closed : K → Soaks G → (T : Declared) (L : LL.Laws T) → Plains (fields T) → {κ : Lft} {q : Share} {u v : Gv} {γ : GName} (h : T.D) → Is (row T) h (LL.vals T L h) → (b o : ℕ)
        → Step K 𝓛 (‵ (fobs γ ((row T).coded.code h)) ∷ ‵ (fbor κ (Holds (mem (row T)) b o γ)) ∷ ‵ (flft κ q) ∷ Γ) G
        (‵ (cell_at full_share (row T).mir (LL.vals T L h) b o) ∷ ‵ (fobor κ q (Holds (mem (row T)) b o γ)) ∷ ‵ (fobs γ u) ∷ ‵ (fauth γ v) ∷ Γ) G
    closed t z T L pl h is b o = step (λ s. owned t (row T) (Is (row T)) (LL.makes T pl 𝓛) h (LL.vals T L h) is $ move t (1 ∷ 0 ∷ []) $ closes t z (row T) h (LL.vals T L h) b o $ s)

    -- a `&` is looked into, and shut
    pub looked : K → Soaks G → (T : Declared) (L : LL.Laws T) → LL.Copyables T.parts → {κ : Lft} {q : Share} (h : T.D) (b o : ℕ)
        → ((q' : Share) → Is (row T) h (LL.vals T L h) → Seq K 𝓛 (‵ (cell_at q' (row T).mir (LL.vals T L h) b o) ∷ Shut 𝓛 κ q (part_at (row T) q' h b o) ∷ ‵ (hidden_shr (row T) κ h b o) ∷ Γ) G)
        → Seq K 𝓛 (‵ (hidden_shr (row T) κ h b o) ∷ ‵ (flft κ q) ∷ Γ) G
    looked t z T L cp h b o k = looks t z (row T) (LL.copied T cp 𝓛).opens h b o (λ q' vs.
        spelt t (row T) (Is (row T)) (shows 𝓛 (row T)) (LL.vals T L) (LL.tells T L) q' h vs b o $ move t (1 ∷ []) $ facts t (row T) (Is (row T)) (shows 𝓛 (row T)) h (LL.vals T L h) (k q'))

    pub shut : K → Soaks G → (T : Declared) (L : LL.Laws T) → Plains (fields T) → {κ : Lft} {q : Share} (q' : Share) (h : T.D) → Is (row T) h (LL.vals T L h) → (b o : ℕ)
        → Step K 𝓛 (‵ (flft κ q) ∷ Γ) G (‵ (cell_at q' (row T).mir (LL.vals T L h) b o) ∷ Shut 𝓛 κ q (part_at (row T) q' h b o) ∷ Γ) G
    shut t z T L pl q' h is b o = step (λ s. owned t (row T) (Is (row T)) (LL.makes T pl 𝓛) h (LL.vals T L h) is $ move t (1 ∷ 0 ∷ []) $ shuts t z (row T) q' h (LL.vals T L h) b o $ s)

    -- a callee says that a slice's last list is as long as the list passed
    pub as_long : K → {P : Fml} {m n : ℕ} → (m ≡ n → Seq K 𝓛 (‵ P ∷ Γ) G) → Seq K 𝓛 (‵ (fsep P (feq ℕ m n)) ∷ Γ) G
    as_long t k = fsplit t $ move t (1 ∷ []) $ feq_l t k

    -- what a callee leaves: the tokens, the result, the last values and what is ensured of them
    pub answered : K → Soaks G → (T : Ended) (c : Clauses 𝓤 T) (y : (triple_of 𝓛 T.signature (closing 𝓛 T c)).Ghost) (v : Val)
        → ((r : Res T.signature y.0.0) (ws : Lasts T y.0.0 y.0.3)
        → Seq K 𝓛 (raw ((c y.0.0 y.0.3).ensures y.1 r (at_exit T y.0.0 y.0.3 ws)) ∷ ‵ (lasts T y.0.0 y.0.3 ws) ∷ ‵ ((type_at T.signature.result y.0.0).own_val r (v ∷ [])) ∷ raw (alive 𝓛 T.signature y.0.0 y.0.1) ∷ Γ) G)
        → Seq K 𝓛 (raw ((triple_of 𝓛 T.signature (closing 𝓛 T c)).post y v) ∷ Γ) G
    answered t z T c y v k =
        use1 𝓛 (later (some (λ (r : Res T.signature y.0.0). (raw (alive 𝓛 T.signature y.0.0 y.0.1) ⊛ ‵ ((type_at T.signature.result y.0.0).own_val r (v ∷ [])))
        ⊛ some (λ (ws : Lasts T y.0.0 y.0.3). ‵ (lasts T y.0.0 y.0.3 ws) ⊛ raw ((c y.0.0 y.0.3).ensures y.1 r (at_exit T y.0.0 y.0.3 ws)))))) (id⊢ 𝓤 _) $ await t z $ pick t (λ r.
        split t $ split t $ move t (2 ∷ []) $ pick t (λ ws. split t $ move t (1 ∷ 0 ∷ 3 ∷ 2 ∷ []) $ k r ws))

  -- what a callee returns lands as the machine value that its type's relation tells
  pub told : K → (R : RattleType) (val : R.Denot → Val) → Tells R (Is R) (λ x. val x ∷ []) → (r : R.Denot) (u : Val) {C : Calls 𝓤 H} {Λ : Loops 𝓤 H} {E : Env 𝓤 H} {d : Place} {rest : Body} {q : Post 𝓤 H}
      → (Is R r (val r ∷ []) → Seq K 𝓛 Γ (lands C Λ E d (val r) rest q)) → Seq K 𝓛 (‵ (R.own_val r (u ∷ [])) ∷ Γ) (lands C Λ E d u rest q)
  told t R val tells r u {C} {Λ} {E} {d} {rest} {q} k = facts t R (Is R) (shows 𝓛 R) r (u ∷ []) (λ is.
      subst (λ (v : Val). Seq K 𝓛 Γ (lands C Λ E d v rest q)) (sym (ap only (tells r (u ∷ []) is))) (k (subst (Is R r) (tells r (u ∷ []) is) is)))

  -- a store under a test. The cell at entry n holds the value already where the test fails, so it holds the value after both arms, and the rest is walked once
  pub assigns_if : K → (n : ℕ) {C : Calls 𝓤 H} {Λ : Loops 𝓤 H} {E : Env 𝓤 H} {q : Post 𝓤 H} {c : Operand} {p : Place} {rv : RValue} {rest : Body} {y : Bool} {τ : Ty} {b o : ℕ} {u v : Val}
      → Opd K 𝓛 Γ E c (vbool y) → Rv K 𝓛 Γ E rv v → Finds K 𝓛 Γ E p (τ, b, o) → nth 𝓛 n Γ ≡ ‵ (fat full_share (raw_ty τ) b o u) → T (has_ty τ v) × WT v → (T (not y) → u ≡ v)
      → Step K 𝓛 (put 𝓛 n (‵ (fat full_share (raw_ty τ) b o v)) Γ) (runs C Λ E rest q) Γ (runs C Λ E (seq (cond c (assign p rv) skip) rest) q)
  assigns_if t n {C} {Λ} {E} {q} {rest = rest} {τ = τ} {b} {o} test r f at wt same = step (λ s. first t $ branches t test
      (λ _. assigns_last t r f (store_raw t n at wt) $ exec t C Λ E rest q $ s)
      (λ z. skips t $ exec t C Λ E rest q $ rewrite t n (λ (x : Val). ‵ (fat full_share (raw_ty τ) b o x)) (same z) at $ s))

  -- the local at entry n is freed
  pub freed : K → (n : ℕ) {τ : Ty} {b : ℕ} {v : Val} {E : Env 𝓤 H} {g : Goal 𝓤 H} → nth 𝓛 n Γ ≡ ‵ (fat full_share τ b zero v) → nth 𝓛 n (del 𝓛 n Γ) ≡ ‵ (fdies τ b)
      → Step K 𝓛 (del 𝓛 n (del 𝓛 n Γ)) (frees E g) Γ (frees ((τ, b) ∷ E) g)
  freed t n {τ} {b} {v} {E} {g} at dies = step (λ s.
      let last : Seq K 𝓛 (‵ (fat full_share τ b zero v) ∷ ‵ (fdies τ b) ∷ del 𝓛 n (del 𝓛 n Γ)) (frees ((τ, b) ∷ E) g) = forget t 0 refl $ free1 t $ s in
      record {
        prf = via 𝓤 (sep 𝓤 (mean 𝓛 (nth 𝓛 n Γ)) (⋆ 𝓛 (del 𝓛 n Γ))) (pull 𝓛 n Γ)
            (via 𝓤 (⋆ 𝓛 (nth 𝓛 n Γ ∷ nth 𝓛 n (del 𝓛 n Γ) ∷ del 𝓛 n (del 𝓛 n Γ)))
            (mono_r 𝓤 (mean 𝓛 (nth 𝓛 n Γ)) (via 𝓤 _ (pull 𝓛 n (del 𝓛 n Γ)) (push 𝓛 (nth 𝓛 n (del 𝓛 n Γ)) (del 𝓛 n (del 𝓛 n Γ)))))
            (subst (λ (i : Item 𝓤). ent 𝓤 (⋆ 𝓛 (i ∷ nth 𝓛 n (del 𝓛 n Γ) ∷ del 𝓛 n (del 𝓛 n Γ))) (aim 𝓤 H (frees ((τ, b) ∷ E) g))) (sym at)
            (subst (λ (j : Item 𝓤). ent 𝓤 (⋆ 𝓛 (‵ (fat full_share τ b zero v) ∷ j ∷ del 𝓛 n (del 𝓛 n Γ))) (aim 𝓤 H (frees ((τ, b) ∷ E) g))) (sym dies)
            last.prf)));
      })

-- what a callee with no `requires` asks
pub asks : {M : Type 1} (𝓤 : Ura M) (P : SProp 𝓤) → ent 𝓤 P (sep 𝓤 P (emp 𝓤))
asks 𝓤 P = via 𝓤 (sep 𝓤 (emp 𝓤) P) (emp∗ 𝓤 P) (comm∗ 𝓤 (emp 𝓤) P)

-- a walk from each choice of lifetimes, shares and arguments proves that the function meets its contract
module _ {M : Type 1} {𝓤 : Ura M} (𝓛 : Logic 𝓤) (𝓜 : Model 𝓤 𝓛.H) (𝓡 : Running 𝓤 𝓛.H 𝓜) (T : Ended) (hs : Stays T.signature.params T.kept) (c : Clauses 𝓤 T) (γ : Routines) (k : Callee) (f : Fn) where
  open 𝓛 use {H}

  abbrev Types : Lfts T.signature.lifetimes → List RattleType
  Types κs = types_at T.signature.params κs

  pub proves : Closed 𝓤 H (tables 𝓤 H 𝓜 𝓡 γ).C (tables 𝓤 H 𝓜 𝓡 γ).Λ k f → AllGo 𝓛 T.signature.lifetimes T.signature.params T.kept hs
      → (sp : (κs : Lfts T.signature.lifetimes) → Spells (Types κs)) → ((κs : Lfts T.signature.lifetimes) → Tellss (Types κs) (Ises (Types κs)) (sp κs))
      → (FmC 𝓤 H 𝓛.laws (tables 𝓤 H 𝓜 𝓡 γ).C → (κs : Lfts T.signature.lifetimes) (qs : Shares T.signature.lifetimes) (bounds : AllOutlive T.signature.lifetimes T.signature.outlives κs) (a : Args T.signature κs) (g : (c κs a).ghost)
      → Are (Types κs) (Ises (Types κs)) a (valss (Types κs) (sp κs) a)
      → ent 𝓤 (on_entry 𝓛 T.signature κs qs a (valss (Types κs) (sp κs) a))
      (WpFn 𝓤 H (tables 𝓤 H 𝓜 𝓡 γ).C (tables 𝓤 H 𝓜 𝓡 γ).Λ f (flat (Types κs) (valss (Types κs) (sp κs) a)) ((walk_of 𝓛 T hs c).post ((κs, qs, bounds, a, valss (Types κs) (sp κs) a), g))))
      → Meets 𝓛 T.signature ((tables 𝓤 H 𝓜 𝓡 γ).C k) (closing 𝓛 T c)
  unfolding tables_of
  proves is gs sp tl walk =
      let 𝓣 : Tables 𝓤 H = tables_of 𝓤 H 𝓜 (tables 𝓤 H 𝓜 𝓡 γ) in
      entered 𝓤 H (triple_of 𝓛 T.signature (closing 𝓛 T c)) (tables 𝓤 H 𝓜 𝓡 γ).C (tables 𝓤 H 𝓜 𝓡 γ).Λ k f is
      (walk_Meets 𝓛 T hs gs c (WpFn 𝓤 H 𝓣.C 𝓣.Λ f) (WpFn-mono 𝓤 H 𝓛.laws 𝓣 f)
      (walked 𝓛 T hs c (WpFn 𝓤 H 𝓣.C 𝓣.Λ f) sp tl (λ κs qs bounds a g are. via 𝓤 _ (fst∗ 𝓤 _ ((c κs a).requires g)) (walk (fm_of 𝓤 H 𝓛.laws 𝓣) κs qs bounds a g are))))
