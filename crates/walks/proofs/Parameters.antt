-- The parameters of a call that hands on what it is lent: numbers, structs lent to read, slices lent to read and areas lent to write, in any order. What each is to the call and to its callee, what the contract says of each, and the code that hands it on.
-- Assumes nothing.
use Prim.Native.Nat.{ℕ, suc}
use mathlib.Core.List.{[], ◌∷◌, List}
use mir.Syntax.{Width, w8, Ty, named, erased, ty_int, ty_ref, imm, mut, Local, local, value_local, place, deref, field, Opd, copy, rv_opd, addr_of, aggregate, Body, seq, assign}
use mir.Val.{vint}
use base.Fml.{Lft, Share}
use contract.Lifetimes.{Lfts, Shares}
use denote.RattleType.{RattleType, Denots, Valss}
use denote.Memory.{pointee}
use denote.Plain.{UInt}
use denote.Builtin.{u8}
use denote.Slice.{MutSlice, ShrSlice, slice_ty, shr_slice_vals, mut_slice_vals}
use denote.Struct.Struct.{Plains, layout}
use denote.Struct.Declared.{Declared, fields, row, shape}
use denote.Struct.Laws as LL
use denote.Exit.{yes}
use denote.Signature.{Slot, plain, types_at}
use denote.Triple.End.{Outs, all}

-- a struct that can be copied out of the place where it is lent
pub record Lendable : Type 2 where
  pub decl : Declared
  pub laws : LL.Laws decl
  pub copies : LL.Copyables decl.parts
  pub pure : Plains (fields decl)

-- what a call is lent or passed: a `uN`, a `&S`, a `&[uN]`, a `&mut [u8]`
pub data Kind : Type 2 where
  number : Width → Kind
  struct : Lendable → Kind
  slice : Width → Kind
  area : Kind

-- how many lifetimes the call has, its answer's among them, and how many its callee has
abbrev pub lifetimes : List Kind → ℕ
lifetimes [] = 1
lifetimes (number w ∷ ks) = lifetimes ks
lifetimes (struct S ∷ ks) = suc (lifetimes ks)
lifetimes (slice w ∷ ks) = suc (lifetimes ks)
lifetimes (area ∷ ks) = suc (lifetimes ks)

abbrev pub handed : List Kind → ℕ
handed [] = 0
handed (number w ∷ ks) = handed ks
handed (struct S ∷ ks) = handed ks
handed (slice w ∷ ks) = suc (handed ks)
handed (area ∷ ks) = suc (handed ks)

-- the callee's lifetimes among the call's, and their shares
abbrev pub handed_lfts : (ks : List Kind) → Lfts (lifetimes ks) → Lfts (handed ks)
handed_lfts [] κs = tt
handed_lfts (number w ∷ ks) κs = handed_lfts ks κs
handed_lfts (struct S ∷ ks) κs = handed_lfts ks κs.1
handed_lfts (slice w ∷ ks) κs = (κs.0, handed_lfts ks κs.1)
handed_lfts (area ∷ ks) κs = (κs.0, handed_lfts ks κs.1)

abbrev pub handed_shares : (ks : List Kind) → Shares (lifetimes ks) → Shares (handed ks)
handed_shares [] qs = tt
handed_shares (number w ∷ ks) qs = handed_shares ks qs
handed_shares (struct S ∷ ks) qs = handed_shares ks qs.1
handed_shares (slice w ∷ ks) qs = (qs.0, handed_shares ks qs.1)
handed_shares (area ∷ ks) qs = (qs.0, handed_shares ks qs.1)

-- a lifetime of a call with n of them: its number, itself, and its token's share
pub record Life (n : ℕ) : Type 0 where
  pub index : ℕ
  pub lft : Lfts n → Lft
  pub share : Shares n → Share

abbrev life : {n : ℕ} → ℕ → (Lfts n → Lft) → (Shares n → Share) → Life n
life j κ q = record { index = j; lft = κ; share = q }

-- a lifetime of a callee with m of them
pub record CalleeLife (m : ℕ) : Type 0 where
  pub index : ℕ
  pub lft : Lfts m → Lft

-- a parameter with its lifetimes, named after what becomes of it: a number is passed on, a struct is copied out, a slice is shared with the callee, an area is given to it
pub data Param (n m : ℕ) : Type 2 where
  passed : Width → Param n m
  copied : Life n → Lendable → Param n m
  shared : Life n → CalleeLife m → Width → Param n m
  given : Life n → CalleeLife m → Param n m

-- the lifetimes of the parameters ks and of the answer, among the n of the call and the m of its callee, and the number of the first of either
pub record Ahead (n m : ℕ) (ks : List Kind) : Type 0 where
  pub next : ℕ
  pub lfts : Lfts n → Lfts (lifetimes ks)
  pub shares : Shares n → Shares (lifetimes ks)
  pub callee_next : ℕ
  pub callee_lfts : Lfts m → Lfts (handed ks)

module _ {n m : ℕ} {ks : List Kind} where
  abbrev pub past_number : {w : Width} → Ahead n m (number w ∷ ks) → Ahead n m ks
  past_number v = record { next = v.next; lfts = v.lfts; shares = v.shares; callee_next = v.callee_next; callee_lfts = v.callee_lfts }

  abbrev pub past_struct : {S : Lendable} → Ahead n m (struct S ∷ ks) → Ahead n m ks
  past_struct v = record { next = suc v.next; lfts = λ κs. (v.lfts κs).1; shares = λ qs. (v.shares qs).1; callee_next = v.callee_next; callee_lfts = v.callee_lfts }

  abbrev pub past_slice : {w : Width} → Ahead n m (slice w ∷ ks) → Ahead n m ks
  past_slice v = record { next = suc v.next; lfts = λ κs. (v.lfts κs).1; shares = λ qs. (v.shares qs).1; callee_next = suc v.callee_next; callee_lfts = λ κs. (v.callee_lfts κs).1 }

  abbrev pub past_area : Ahead n m (area ∷ ks) → Ahead n m ks
  past_area v = record { next = suc v.next; lfts = λ κs. (v.lfts κs).1; shares = λ qs. (v.shares qs).1; callee_next = suc v.callee_next; callee_lfts = λ κs. (v.callee_lfts κs).1 }

module _ {n m : ℕ} where
  abbrev pub params : (ks : List Kind) → Ahead n m ks → List (Param n m)
  params [] v = []
  params (number w ∷ ks) v = passed w ∷ params ks (past_number v)
  params (struct S ∷ ks) v = copied (life v.next (λ κs. (v.lfts κs).0) (λ qs. (v.shares qs).0)) S ∷ params ks (past_struct v)
  params (slice w ∷ ks) v = shared (life v.next (λ κs. (v.lfts κs).0) (λ qs. (v.shares qs).0)) (record { index = v.callee_next; lft = λ κs. (v.callee_lfts κs).0 }) w ∷ params ks (past_slice v)
  params (area ∷ ks) v = given (life v.next (λ κs. (v.lfts κs).0) (λ qs. (v.shares qs).0)) (record { index = v.callee_next; lft = λ κs. (v.callee_lfts κs).0 }) ∷ params ks (past_area v)

  -- the answer's lifetime
  abbrev pub own : (ks : List Kind) → Ahead n m ks → Life n
  own [] v = life v.next (λ κs. (v.lfts κs).0) (λ qs. (v.shares qs).0)
  own (number w ∷ ks) v = own ks (past_number v)
  own (struct S ∷ ks) v = own ks (past_struct v)
  own (slice w ∷ ks) v = own ks (past_slice v)
  own (area ∷ ks) v = own ks (past_area v)

  -- what a contract speaks of: the values that are passed, and what is left in the areas
  abbrev pub Nows : List (Param n m) → Type 0
  Nows [] = Unit {0}
  Nows (passed w ∷ xs) = ℕ × Nows xs
  Nows (copied ℓ S ∷ xs) = S.decl.D × Nows xs
  Nows (shared ℓ i w ∷ xs) = List ℕ × Nows xs
  Nows (given ℓ i ∷ xs) = List ℕ × Nows xs

  abbrev pub Areas : List (Param n m) → Type 0
  Areas [] = Unit {0}
  Areas (passed w ∷ xs) = Areas xs
  Areas (copied ℓ S ∷ xs) = Areas xs
  Areas (shared ℓ i w ∷ xs) = Areas xs
  Areas (given ℓ i ∷ xs) = List ℕ × Areas xs

-- ---- the code

abbrev pub ty_of : Lendable → Ty
ty_of S = layout (shape S.decl)

abbrev pub ref_to : {n : ℕ} → Life n → Lendable → Ty
ref_to ℓ S = ty_ref (named ℓ.index) mut (pointee (row S.decl).written)

abbrev pub byte_ptr : Ty
byte_ptr = ty_ref erased mut (ty_int w8)

abbrev pub locals : List Ty → List Local → List Local
locals [] ls = ls
locals (τ ∷ τs) ls = local τ value_local ∷ locals τs ls

module _ {n m : ℕ} where
  -- the types of the parameters; of the temporaries: a copy of a struct, a pointer and a slice for an area
  abbrev param_type : Param n m → Ty
  param_type (passed w) = ty_int w
  param_type (copied ℓ S) = ty_ref (named ℓ.index) imm (pointee (row S.decl).written)
  param_type (shared ℓ i w) = slice_ty (ty_ref (named ℓ.index) imm (ty_int w))
  param_type (given ℓ i) = slice_ty (ty_ref (named ℓ.index) mut (ty_int w8))

  abbrev pub param_types : List (Param n m) → List Ty
  param_types [] = []
  param_types (x ∷ xs) = param_type x ∷ param_types xs

  abbrev pub temp_types : List (Param n m) → List Ty
  temp_types [] = []
  temp_types (passed w ∷ xs) = temp_types xs
  temp_types (copied ℓ S ∷ xs) = ty_of S ∷ temp_types xs
  temp_types (shared ℓ i w ∷ xs) = temp_types xs
  temp_types (given ℓ i ∷ xs) = byte_ptr ∷ slice_ty byte_ptr ∷ temp_types xs

  -- the local after the parameters that begin at i
  abbrev pub skip : ℕ → List (Param n m) → ℕ
  skip i [] = i
  skip i (x ∷ xs) = skip (suc i) xs

  -- the local after the temporaries that begin at t
  abbrev pub skip_temps : ℕ → List (Param n m) → ℕ
  skip_temps t [] = t
  skip_temps t (passed w ∷ xs) = skip_temps t xs
  skip_temps t (copied ℓ S ∷ xs) = skip_temps (suc t) xs
  skip_temps t (shared ℓ i w ∷ xs) = skip_temps t xs
  skip_temps t (given ℓ i ∷ xs) = skip_temps (suc (suc t)) xs

  -- with the parameters from the local i on and the temporaries from t on: the temporaries are filled; what is passed
  abbrev pub copying : ℕ → ℕ → List (Param n m) → Body → Body
  copying i t [] b = b
  copying i t (passed w ∷ xs) b = copying (suc i) t xs b
  copying i t (copied ℓ S ∷ xs) b = seq (assign (place t []) (rv_opd (copy (place i (deref (ty_of S) ∷ []))))) (copying (suc i) (suc t) xs b)
  copying i t (shared ℓ h w ∷ xs) b = copying (suc i) t xs b
  copying i t (given ℓ h ∷ xs) b = seq (assign (place t []) (addr_of (place i (field 0 ∷ deref (ty_int w8) ∷ []))))
      (seq (assign (place (suc t) []) (aggregate (copy (place t []) ∷ copy (place i (field 1 ∷ [])) ∷ []))) (copying (suc i) (suc (suc t)) xs b))

  abbrev pub operands : ℕ → ℕ → List (Param n m) → List Opd
  operands i t [] = []
  operands i t (passed w ∷ xs) = copy (place i []) ∷ operands (suc i) t xs
  operands i t (copied ℓ S ∷ xs) = copy (place t []) ∷ operands (suc i) (suc t) xs
  operands i t (shared ℓ h w ∷ xs) = copy (place i []) ∷ operands (suc i) t xs
  operands i t (given ℓ h ∷ xs) = copy (place (suc t) []) ∷ operands (suc i) (suc (suc t)) xs

  -- ---- the callee's parameters

  abbrev pub inners : List (Param n m) → List (Slot m)
  inners [] = []
  inners (passed w ∷ xs) = plain (λ _. UInt w) ∷ inners xs
  inners (copied ℓ S ∷ xs) = plain (λ _. row S.decl) ∷ inners xs
  inners (shared ℓ i w ∷ xs) = plain (λ κs. ShrSlice (named i.index) (i.lft κs) (UInt w)) ∷ inners xs
  inners (given ℓ i ∷ xs) = plain (λ κs. MutSlice (named i.index) (i.lft κs) u8) ∷ inners xs

  module _ (κi : Lfts m) where
    abbrev pub Rows : List (Param n m) → List RattleType
    Rows xs = types_at (inners xs) κi

    abbrev pub seen : (xs : List (Param n m)) → Denots (Rows xs) → Nows xs
    seen [] a = tt
    seen (passed w ∷ xs) a = (a.0, seen xs a.1)
    seen (copied ℓ S ∷ xs) a = (a.0, seen xs a.1)
    seen (shared ℓ i w ∷ xs) a = (a.0.now, seen xs a.1)
    seen (given ℓ i ∷ xs) a = (a.0.now, seen xs a.1)

    -- what the callee leaves in the areas
    abbrev pub left_in : (xs : List (Param n m)) → Outs κi (inners xs) (all yes (inners xs)) → Areas xs
    left_in [] e = tt
    left_in (passed w ∷ xs) e = left_in xs e.1
    left_in (copied ℓ S ∷ xs) e = left_in xs e.1
    left_in (shared ℓ i w ∷ xs) e = left_in xs e.1
    left_in (given ℓ i ∷ xs) e = (e.0.now, left_in xs e.1)

    abbrev pub inner_vals : (xs : List (Param n m)) → Denots (Rows xs) → Valss (Rows xs)
    inner_vals [] a = tt
    inner_vals (passed w ∷ xs) a = (vint w a.0 ∷ [], inner_vals xs a.1)
    inner_vals (copied ℓ S ∷ xs) a = (LL.vals S.decl S.laws a.0, inner_vals xs a.1)
    inner_vals (shared ℓ i w ∷ xs) a = (shr_slice_vals a.0, inner_vals xs a.1)
    inner_vals (given ℓ i ∷ xs) a = (mut_slice_vals a.0, inner_vals xs a.1)
