-- The machine values of a `Handle`, and what it owns, taken apart and put together. Assumes `Logic`.
use Rattle.std.proofs.Common.{◌≡◌, ℕ, List, [], ◌∷◌, ◌++◌, refl, subst, lit<}
use lib.Dec.{T}
use mathlib.Core.Bool.{true, ◌&&◌}
use seplogic.Ra.Ura.{Ura}
use mir.Syntax.{impl, tnil, dnil, w64}
use mir.Raw.{raw as bare}
use mir.Val.{Val, vint, vstruct, of_list, has_ty, WT}
use base.Logic.{SProp, ent, via, snd∗, guard, guard_i}
use types.Logic.{Logic, sem}
use types.Kit.{Item, Goal, Seq, Step, step, ‵, given, ◌$◌, move, drop, fsplit, fjoin, fpick, fpack, feq_i, feq_l, use1, learn}
use contract.Monad.{fact_use}
use denote.RattleType.{RattleType, Valss}
use denote.Builtin.{RawPtr}
use denote.Memory.{lone}
use denote.RawPtr.{Ptr, block_ptr, null_ptr, ptr_val, lies_at, Testable}
use denote.Steps.{nothing}
use denote.Param.{layout}
use denote.Param.Laws.{Laws}
use denote.Struct.Struct.{within}
use denote.Struct.Owning.{shape, to}
use Rattle.core.proofs.alloc.Calls.{Al, handle_tells}
use Rattle.core.proofs.cell.Inside.{Good}
use Rattle.std.proofs.GlobalToken.{dealloc_token-Testable}
use Rattle.std.specs.contracts.alloc.Global as heap
use Rattle.std.proofs.alloc.Global.TheLaws as heap_laws
use Rattle.std.specs.contracts.impls.GlobalAllocator.TheImpl.{ghosts}
use Rattle.std.specs.declared.alloc.Global.{Global}
use Rattle.std.specs.declared.option.Option.{Option}
use Rattle.std.specs.declared.option.Option.TheVariants.{None, Some}
use Rattle.std_alloc.proofs.ResultValues.{and_tt}
use Rattle.ksm_ffi.specs.Handles.{handle_owns, boxed}
use Rattle.ksm_ffi.specs.contracts.thing.Thing.{the_row as R}
use Rattle.ksm_ffi.specs.contracts.handle.Handle as handle
use Rattle.ksm_ffi.proofs.Values.{both}

-- the type of what a handle's box keeps
abbrev pub Z : RattleType
Z = heap.the_row

-- the laws of that type's layout
abbrev pub LZ : Laws Z
LZ = heap_laws.the_row_laws

-- the allocator of the box
abbrev pub al : Al
al = record { row = Z; laws = LZ; g = ghosts; d = impl [] tnil dnil; drops = impl [] tnil dnil }

-- a handle whose pointer is null is a good value
pub null_good : (h : Val) → Good (layout Z) h → T (has_ty (layout Z) h && true) × WT (both (vint w64 0) h)
null_good h fits = (and_tt (has_ty (layout Z) h) fits.0, (record { fits = lit< tt }, (fits.1, tt)))

module _ {M : Type 1} {𝓤 : Ura M} (𝓛 : Logic 𝓤) (a : Global) where
  tested : (p : Ptr) (x : R.Denot) → ent 𝓤 (sem 𝓛 (boxed a p x)) (guard 𝓤 (Testable p) (sem 𝓛 (boxed a p x)))
  tested p x = let B : SProp 𝓤 = sem 𝓛 (boxed a p x) in fact_use 𝓤 (Testable p) (via 𝓤 _ (snd∗ 𝓤 (sem 𝓛 (lies_at R base.Fraction.full_share p x)) (sem 𝓛 (ghosts.dealloc_token a (bare (lone R.mir)) p))) (dealloc_token-Testable 𝓛 a (bare (lone R.mir)) p)) (guard_i 𝓤 (Testable p) B)

module _ {M : Type 1} {𝓤 : Ura M} {𝓛 : Logic 𝓤} {K : Type 0} {Γ : List (Item 𝓤)} {G : Goal 𝓤 𝓛.H} where
  -- a handle is empty, or its box stands where a test for null is defined
  pub either_owned : K → (a : Global) (p : Ptr) (t : Option R.Denot)
      → (p ≡ null_ptr → t ≡ None → Seq K 𝓛 Γ G)
      → ((b o : ℕ) (x : R.Denot) → p ≡ block_ptr b o → t ≡ Some x → Testable (block_ptr b o) → Seq K 𝓛 (‵ (boxed a (block_ptr b o) x) ∷ Γ) G)
      → Seq K 𝓛 (‵ (handle_owns a p t) ∷ Γ) G
  either_owned k a null_ptr None none one = drop k $ none refl refl
  either_owned k a null_ptr (Some x) none one = fpick k (λ e. absurd e)
  either_owned k a (block_ptr b o) None none one = fpick k (λ e. absurd e)
  either_owned k a (block_ptr b o) (Some x) none one = use1 𝓛 (given (Testable (block_ptr b o)) (‵ (boxed a (block_ptr b o) x))) (tested 𝓛 a (block_ptr b o) x) $ learn k (λ e. one b o x refl refl e)

  -- a handle is taken apart: its values are its pointer and its allocator, and what each of them owns is at hand
  pub handle_out : K → (d : handle.the_row.Denot) (vs : List Val)
      → ((h : Val) → vs ≡ both (ptr_val d.at) h ∷ [] → Good (layout Z) h → Seq K 𝓛 (‵ (handle_owns d.alloc d.at d.thing) ∷ ‵ (Z.own_val d.alloc (h ∷ [])) ∷ Γ) G)
      → Seq K 𝓛 (‵ (handle.the_row.own_val d vs) ∷ Γ) G
  handle_out k d vs next =
      fsplit k $ fpick k (λ vss. fsplit k $ feq_l k (λ ev. fsplit k $ feq_l k (λ ep. fsplit k $ handle_tells al k d.alloc vss.1.0 (λ h ea fits. move k (1 ∷ []) $ drop k $ move k (1 ∷ []) $
      next h
      (subst (λ (ws : List Val). vs ≡ vstruct (of_list (ptr_val d.at ∷ (ws ++ []))) ∷ []) ea (subst (λ (ps : List Val). vs ≡ vstruct (of_list (ps ++ (vss.1.0 ++ []))) ∷ []) ep ev)) fits))))

  -- a handle is put together from its pointer, its allocator and what each of them owns
  pub handle_in : K → (p : Ptr) (h : Val) (a : Global) (t : Option R.Denot)
      → Step K 𝓛 (‵ (handle.the_row.own_val (record { at = p; alloc = a; thing = t }) (both (ptr_val p) h ∷ [])) ∷ Γ) G (‵ (handle_owns a p t) ∷ ‵ (Z.own_val a (h ∷ [])) ∷ Γ) G
  handle_in k p h a t = step (λ s. let v : Val = both (ptr_val p) h in
      nothing k $ move k (2 ∷ 0 ∷ []) $ fjoin k $ feq_i k (List Val) (ptr_val p ∷ []) (ptr_val p ∷ []) refl $ fjoin k $ feq_i k (List Val) (v ∷ []) (v ∷ []) refl $ fjoin k $
      fpack k (Valss (RawPtr ∷ Z ∷ [])) (within (shape handle.the_type) (to handle.the_type (record { at = p; alloc = a; thing = t })) (v ∷ [])) (ptr_val p ∷ [], (h ∷ [], tt)) $ fjoin k $ s)
