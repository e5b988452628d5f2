use Rattle.ksm_pages.proofs.Names.{arith, frame_of, fresh_row, Held, held_at, lies_on, None, Not, on_ok_weaker, refl, row_at, seen, Some, with_held, with_row, ◌≡◌}
use Rattle.ksm_pages.proofs.Changing.{row_told}
use Rattle.ksm_pages.proofs.Turning.{but_there, Comes, either_way, entered, held_as}
use Rattle.ksm_pages.proofs.pages.Pages.insert.Goals as goal

abbrev fresh : (c : goal.After-insert) → Held
fresh c = record { row = fresh_row c.args.page c.args.node c.args.bytes.now; frame = Some 0; in_tree = Not }

absent : (c : goal.After-insert) → held_at c.args.page c.self.inside.rows.held ≡ None → row_at c.args.page c.args.self.now.rows ≡ None
absent c none = grind (arith, row_told c.args.page c.self.inside.rows.held none)

came : (c : goal.After-insert) → (held_at c.args.page c.self.inside.rows.held ≡ None)
    × (c.insert.new.self ≡ record c.self.inside.rows { held = with_held (fresh c) c.self.inside.rows.held })
    → Comes c.self.inside c.insert.new.self c.self.inside.dups (record (seen c.args.self.now) {
      rows = with_row (fresh c).row c.args.self.now.rows;
      frame = lies_on c.args.page (Some 0) (frame_of c.args.self.now.lodgings);
    })
came c put = entered c.self.inside c.self.invariant c.self.view_is (fresh c) (absent c put.0) refl refl c.insert.new.self (held_as put.1)

pub invariant_of-self : goal.invariant_of-self
invariant_of-self c =
    either_way c.insert.result c.insert.ensures.added c.insert.ensures.kept (λ put. (came c put).lawful) (λ kept. rw kept c.self.invariant)

pub returns-clause-added : goal.returns-clause-added
returns-clause-added c =
    on_ok_weaker c.insert.result (λ put. (absent c put.0, (but_there (seen c.args.self.now) _ _ _ (came c put).told_as).0)) c.insert.ensures.added

pub returns-clause-others : goal.returns-clause-others
returns-clause-others c =
    on_ok_weaker c.insert.result (λ put. (but_there (seen c.args.self.now) _ _ _ (came c put).told_as).1) c.insert.ensures.added
