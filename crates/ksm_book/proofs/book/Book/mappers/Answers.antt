use Rattle.ksm_book.proofs.Names.{ap, is_some, mappers_of, on_err, option_map, some_mapped, sym, true, ◌∙◌, ◌≡◌}
use Rattle.ksm_book.proofs.SoFar.{mappers_so_far}
use Rattle.ksm_book.proofs.book.Book.mappers.Goals as goal

pub returns-in_err-items_at-clause-refused : goal.returns-in_err-items_at-clause-refused
returns-in_err-items_at-clause-refused c =
    let same = mappers_so_far c.self.inside.due.reach c.self.inside.state.state c.args.place in
    let there : is_some (mappers_of c.args.place c.self.inside.state.state) ≡ true = rw (← c.self-inside.view_is) (some_mapped _ _ ∙ c.in_err-items_at.ensures.refused) in
    rw (← c.self.view_is) (on_err _ (ap is_some same ∙ there))

pub returns-clause-mappers : goal.returns-clause-mappers
returns-clause-mappers c =
    let same = mappers_so_far c.self.inside.due.reach c.self.inside.state.state c.args.place in
    let there : option_map (λ v. v.items) c.in_ok-items_at.field-0 ≡ mappers_of c.args.place c.self.inside.state.state =
    rw (← c.self-inside.view_is) c.in_ok-items_at.ensures.items in
    rw (← c.self.view_is) (there ∙ sym same)
