-- `as_mut` tests the pointer, and lends what lies there. The handle stands for what the borrow leaves.
use Rattle.std.proofs.Common.{◌≡◌, ℕ, List, [], ◌∷◌, refl, sym, ap, lit<}
use seplogic.Ra.Ura.{Ura}
use mir.Syntax.{named}
use mir.Raw.{raw as bare}
use mir.Val.{Val, vptr, of_list}
use base.Fraction.{full_share}
use base.Logic.{SProp, ent, sep}
use base.Fml.{Fml, GName, ftrue, fsep, flft, fres}
use types.Logic.{Logic, sem}
use types.Kit.{‵, ◌⊛◌, some, later, at_ret, ◌$◌, ◌∵◌, !, qed, move, keep, use0, use1, split, split3, join, fsplit, fsplit3, fjoin, fpack, pick, await, rewrite, group, suffices, frame, done}
use types.Match.{live}
use types.Part.{agg, sub, whole, look_in}
use types.Run.{stop, fld, addr, load, lit, bin, of_opd, no_more, and_then, first, blocks, skips, branches, exec, returns, returns_within, enter}
use types.ByLocal.{alloc_all, pass_all, free_all, look_at, get, through, sets, sets_last, is, env}
use contract.Running.{tables}
use denote.Exit.{no}
use denote.Follow.{follows, follows_by, lends_Part}
use denote.Memory.{cell_at, part_at, part_of, mem, lone}
use denote.RattleType.{RattleType}
use denote.RawPtr.{Ptr, block_ptr, null_ptr, ptr_val, tests_null}
use denote.Ref.{MutRef, MutBor, mut_vals, mut_Tells}
use denote.Signature.{plain, mut_ref_to}
use denote.Steps.{nothing, opens, closes}
use denote.Triple.Walked.{says, Stays, stay_dropped, walk_of, Goes-spent_ref, ends_at}
use Rattle.core.proofs.alloc.Shapes.{after}
use Rattle.core.proofs.option.Made.{Some-of, none_of}
use Rattle.core.specs.contracts.option.Option as OP
use Rattle.std.proofs.raw_atomic.Walks.{proved}
use Rattle.std.specs.declared.option.Option.{Option}
use Rattle.std.specs.declared.option.Option.TheVariants.{None, Some}
use Rattle.std.specs.contracts.impls.GlobalAllocator.TheImpl.{ghosts}
use Rattle.ksm_ffi.specs.Handles.{handle_owns}
use Rattle.ksm_ffi.specs.Lends.{standing_for}
use Rattle.ksm_ffi.proofs.Values.{both}
use Rattle.ksm_ffi.proofs.Boxes.{Z, either_owned, handle_out, handle_in}
use Rattle.ksm_ffi.specs.contracts.thing.Thing.{the_row as R}
use Rattle.ksm_ffi.specs.contracts.handle.Handle.{the_row as Hr}
use Rattle.ksm_ffi.specs.contracts.handle.Handle.as_mut as f
use Rattle.ksm_ffi.proofs.handle.Handle.as_mut.Statement.{statement}
use Rattle.ksm_ffi.proofs.handle.Handle.as_mut.Code as code

abbrev stayed : Stays f.ended.signature.params f.ended.kept
stayed = (stay_dropped (mut_ref_to (0 ∷ []) tt (plain (λ _. Hr))) no, tt)

-- all of an open handle but what it stands for
abbrev rest : Hr.Denot → ℕ → ℕ → Val → ℕ → ℕ → Fml
rest h b o w rb ro = fsep (fsep (ghosts.dealloc_token h.alloc (bare (lone R.mir)) (block_ptr b o)) (Z.own_val h.alloc (w ∷ []))) (cell_at full_share Hr.mir (both (ptr_val h.at) w ∷ []) rb ro)

module _ {M : Type 1} {𝓤 : Ura M} (𝓛 : Logic 𝓤) (h : Hr.Denot) (b o : ℕ) (w : Val) (rb ro : ℕ) where
  back : h.at ≡ block_ptr b o → (x : R.Denot) → ent 𝓤 (sep 𝓤 (sem 𝓛 ((mem R).own_at x b o)) (sem 𝓛 (rest h b o w rb ro))) (sem 𝓛 ((mem Hr).own_at (standing_for h x) rb ro))
  unfolding part_of
  back e x =
      qed 𝓛 (‵ (part_at R full_share x b o) ∷ ‵ (rest h b o w rb ro) ∷ []) ∵ move ! (1 ∷ []) $ fsplit ! $ fsplit ! $ move ! (3 ∷ 0 ∷ []) $ fjoin ! $
      rewrite ! 0 (λ (p : Ptr). ‵ (handle_owns h.alloc p (Some x))) (sym e) refl $ handle_in ! h.at w h.alloc (Some x) $ move ! (1 ∷ 0 ∷ []) $ fjoin ! $
      fpack ! (List Val) (λ us. fsep (cell_at full_share Hr.mir us rb ro) (Hr.own_val (standing_for h x) us)) (both (ptr_val h.at) w ∷ []) $ done !

pub as_mut_spec : {M : Type 1} → statement M
unfolding follows_by
as_mut_spec 𝓤 𝓛 𝓜 𝓡 wired =
    let 𝓣 = tables 𝓤 𝓛.H 𝓜 𝓡 𝓡.env in let c = f.clauses 𝓛 𝓜.mem 𝓡.returns in let fn = code.function in
    proved 𝓛 f.ended stayed c 𝓜 𝓡 (Goes-spent_ref 𝓛 1 (0 ∷ []) tt (plain (λ _. Hr)), tt) f.Key.name fn (code.unfolded 𝓤 𝓛.H 𝓜 𝓡 wired)
    (λ κs. (mut_vals, tt)) (λ κs. (mut_Tells (named 0) κs.0 Hr, tt)) (λ κs qs bounds a _ are.
    let κ = κs.0 in let q = qs.0 in let rb = a.0.ref_ptr.0 in let ro = a.0.ref_ptr.1 in let γ = a.0.ghost_name in let h = a.0.now in let vs = mut_vals a.0 in
    let Lent : RattleType = MutRef (named 0) κ R in let y : (walk_of 𝓛 f.ended stayed c).Ghost = ((κs, qs, bounds, a, (vs, tt)), tt) in let Post : Val → SProp 𝓤 = (walk_of 𝓛 f.ended stayed c).post y in
    qed 𝓛 (((‵ (flft κ q) ⊛ ‵ ftrue) ⊛ ‵ ((MutRef (named 0) κ Hr).own_val a.0 vs) ⊛ ‵ ftrue) ∷ ‵ ftrue ∷ []) ∵ split ! $ split ! $ move ! (2 ∷ []) $ split ! $ keep ! (0 ∷ 2 ∷ []) $
    enter ! 𝓣.C 𝓣.Λ fn vs Post $ alloc_all ! (λ l. pass_all ! refl ((tt, tt), tt) $ let Ev = env fn.locals l in
    fsplit3 ! $ move ! (1 ∷ 2 ∷ 3 ∷ []) $ opens ! tt Hr {h = h} rb ro (λ us. move ! (1 ∷ []) $ handle_out ! h us (λ w ws fits.
    rewrite ! 2 (λ (ts : List Val). ‵ (cell_at full_share Hr.mir ts rb ro)) ws refl $ either_owned ! h.alloc h.at h.thing
    (λ en et.
    sets ! (is ! (of_opd ! (load ! (through ! refl (fld ! refl (stop !))) (look_in ! 1 (sub ! 0 refl (whole !))))) (ap ptr_val en)) refl (tt, record { fits = lit< tt }) $
    sets ! (bin ! (get ! refl) (lit ! tt) tt) refl (tt, tt) $ first ! $ branches ! (get ! refl)
    (λ _. sets ! (agg ! (and_then ! (lit ! tt) (no_more !))) refl (tt, (record { fits = lit< tt }, tt)) $
    nothing ! $ rewrite ! 0 (λ (t : Option R.Denot). ‵ (handle_owns h.alloc null_ptr t)) (sym et) refl $ rewrite ! 0 (λ (p : Ptr). ‵ (handle_owns h.alloc p h.thing)) (sym en) refl $
    handle_in ! h.at w h.alloc h.thing $ move ! (1 ∷ 0 ∷ []) $ closes ! tt Hr h (both (ptr_val h.at) w ∷ []) rb ro $
    use1 𝓛 (‵ (fres γ (Hr.coded.code h))) (𝓛.names.obs-res γ (Hr.coded.code h)) $
    returns_within ! Post refl (look_at ! 0 refl) $ free_all ! refl $ keep ! (2 ∷ 0 ∷ []) $
    use0 𝓛 (‵ ((OP.the_row Lent).own_val None (live 0 (of_list []) ∷ []))) (none_of 𝓛 Lent) $
    suffices ! _ (ends_at 𝓛 f.ended stayed c y (live 0 (of_list [])) None (tt, tt) (tt, tt)) $
    nothing ! $ nothing ! $ fjoin ! $ join ! $ nothing ! $ move ! (2 ∷ 0 ∷ []) $ join ! $ join ! $ frame ! $ says ! et $ done !)
    (λ wrong. absurd wrong))
    (λ b o x e et t. fsplit ! $
    sets ! (is ! (of_opd ! (load ! (through ! refl (fld ! refl (stop !))) (look_in ! 3 (sub ! 0 refl (whole !))))) (ap ptr_val e)) refl (tt, tt) $
    sets ! (bin ! (get ! refl) (lit ! tt) (tests_null (block_ptr b o) t)) refl (tt, tt) $ first ! $ branches ! (get ! refl) (λ wrong. absurd wrong)
    (λ _. skips ! $ exec ! 𝓣.C 𝓣.Λ Ev (after 3 fn.body) (at_ret Ev Post) $ first ! $ blocks ! $
    sets ! (is ! (of_opd ! (load ! (through ! refl (fld ! refl (stop !))) (look_in ! 3 (sub ! 0 refl (whole !))))) (ap ptr_val e)) refl (tt, tt) $
    sets ! (of_opd ! (get ! refl)) refl (tt, tt) $ sets ! (addr ! (through ! refl (stop !))) refl (tt, tt) $
    sets_last ! (agg ! (and_then ! (lit ! tt) (and_then ! (get ! refl) (no_more !)))) refl (tt, (record { fits = lit< tt }, (tt, tt))) $
    exec ! 𝓣.C 𝓣.Λ Ev (after 4 fn.body) (at_ret Ev Post) $ sets ! (of_opd ! (get ! refl)) refl (tt, (record { fits = lit< tt }, (tt, tt))) $
    move ! (1 ∷ 2 ∷ []) $ fjoin ! $ move ! (0 ∷ 2 ∷ []) $ fjoin ! $ move ! (2 ∷ 3 ∷ 4 ∷ 1 ∷ 0 ∷ []) $ group ! 5 $
    use1 𝓛 (later (some (λ (δ : GName). ‵ (Lent.own_val (record { ref_ptr = (b, o); ghost_name = δ; now = x }) (vptr b o ∷ [])) ⊛ ‵ (flft κ q) ⊛ ‵ (follows Hr R γ δ (standing_for h)))))
    (lends_Part 𝓛 Hr R (standing_for h) (named 0) κ q rb ro b o γ (sem 𝓛 (rest h b o w rb ro)) (back 𝓛 h b o w rb ro e) (Hr.coded.code h) (Hr.coded.code h) x) $ await ! tt $ pick ! (λ δ.
    let r : MutBor R.Denot = record { ref_ptr = (b, o); ghost_name = δ; now = x } in let v : Val = live 1 (of_list (vptr b o ∷ [])) in
    split3 ! $ use1 𝓛 (‵ ((OP.the_row Lent).own_val (Some r) (v ∷ []))) (Some-of 𝓛 Lent r (vptr b o)) $
    returns ! (look_at ! 0 refl) $ free_all ! refl $ keep ! (0 ∷ 1 ∷ 2 ∷ []) $
    suffices ! _ (ends_at 𝓛 f.ended stayed c y v (Some r) (tt, tt) (tt, tt)) $
    nothing ! $ nothing ! $ fjoin ! $ join ! $ nothing ! $ move ! (2 ∷ 0 ∷ []) $ join ! $ join ! $ frame ! $ says ! et $ done !)))))))
