-- `empty` owns nothing.
use Rattle.std.proofs.Common.{List, [], ◌∷◌, ◌++◌, refl, sym, subst}
use mir.Syntax.{w64}
use mir.Val.{Val, vint}
use base.Logic.{SProp, ent, emp, id⊢}
use base.Fml.{ftrue}
use prog.Wp.{WpFn}
use types.Kit.{‵, raw, ◌⊛◌, ◌$◌, ◌∵◌, !, qed, keep, drop, split, join, fsplit, fjoin, suffices, done}
use types.Run.{lit, no_more, and_then, returns, enter}
use types.ByLocal.{alloc_all, pass_all, free_all, look_at, get, sets}
use types.Part.{agg}
use contract.Running.{tables}
use denote.Exit.{yes}
use denote.RattleType.{RattleType, owns}
use denote.RawPtr.{null_ptr}
use denote.Signature.{type_at, plain}
use denote.Steps.{nothing}
use denote.Triple.Walked.{says, Stays, stay_dropped, walk_of, Goes-dropped, ends_at}
use Rattle.core.proofs.alloc.Calls.{handle_tells}
use Rattle.std.proofs.raw_atomic.Walks.{proved_at}
use Rattle.std.specs.declared.option.Option.TheVariants.{None}
use Rattle.ksm_ffi.proofs.Values.{both}
use Rattle.ksm_ffi.proofs.Boxes.{Z, al, null_good, handle_in}
use Rattle.ksm_ffi.specs.contracts.handle.Handle.{the_row as Hr}
use Rattle.ksm_ffi.specs.contracts.handle.Handle.empty as f
use Rattle.ksm_ffi.proofs.handle.Handle.empty.Statement.{statement}
use Rattle.ksm_ffi.proofs.handle.Handle.empty.Code as code

abbrev From : RattleType
From = Z

abbrev stayed : Stays f.ended.signature.params f.ended.kept
stayed = (stay_dropped (plain (λ _. From)) yes, tt)

pub empty_spec : {M : Type 1} → statement M
empty_spec 𝓤 𝓛 𝓜 𝓡 wired =
    let H = 𝓛.H in let 𝓣 = tables 𝓤 H 𝓜 𝓡 𝓡.env in let En = f.ended in let c = f.clauses 𝓛 𝓜.mem 𝓡.returns in let fn = code.function in
    proved_at 𝓛 En stayed c 𝓜 𝓡 (Goes-dropped 𝓛 0 (plain (λ _. From)) yes (λ κs x w. refl), tt) f.Key.name fn (code.unfolded 𝓤 H 𝓜 𝓡 wired) (λ z are.
    let v = z.0.3.0 in let Post : Val → SProp 𝓤 = (walk_of 𝓛 En stayed c).post z in let Run : List Val → SProp 𝓤 = λ ws. WpFn 𝓤 H 𝓣.C 𝓣.Λ fn ws Post in
    let Out : RattleType = type_at En.signature.result tt in
    qed 𝓛 ((‵ ftrue ⊛ ‵ (owns (From ∷ []) z.0.3 z.0.4)) ∷ raw (emp 𝓤) ∷ []) ∵ split ! $ drop ! $ fsplit ! $
    handle_tells al ! v z.0.4.0 (λ h eh fits. nothing ! $ handle_in ! null_ptr h v None $ keep ! (0 ∷ []) $
    let w : Val = both (vint w64 0) h in let made : Hr.Denot = record { at = null_ptr; alloc = v; thing = None } in
    suffices ! (Run (h ∷ [])) (subst (λ (us : List Val). ent 𝓤 (Run (h ∷ [])) (Run us)) (sym (λ i. eh i ++ [])) (id⊢ 𝓤 (Run (h ∷ [])))) $
    enter ! 𝓣.C 𝓣.Λ fn (h ∷ []) Post $ alloc_all ! (λ l. pass_all ! refl (fits, tt) $
    sets ! (agg ! (and_then ! (lit ! tt) (and_then ! (get ! refl) (no_more !)))) refl (null_good h fits) $
    returns ! (look_at ! 0 refl) $ free_all ! refl $
    suffices ! _ (ends_at 𝓛 En stayed c z w made (tt, tt) (tt, tt)) $ says ! refl $ nothing ! $ nothing ! $ fjoin ! $ join ! $ nothing ! $ join ! $ done !)))
