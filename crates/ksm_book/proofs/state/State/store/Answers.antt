use Rattle.ksm_book.proofs.Names.{arith, Done, false, find_all, IsServed, length, Ok, PAGE_WORDS, refl, Row, rules, seen, shared_state, state_of, Store, stored, subst, sym, true, unmapped_state, waiting_state, ◌<◌, ◌∙◌, ◌≡◌}
use Rattle.ksm_book.proofs.Laying.{served_at, may_left, resettled, turned}
use Rattle.ksm_book.proofs.Singles.{carried_so, Does, own_lies, own_ready, private_told, row_held, lawful, store_copied, store_written}
use Rattle.ksm_book.proofs.DueBroken.{stored_due}
use Rattle.ksm_book.proofs.SoFar.{later_still}
use Rattle.ksm_book.proofs.state.State.store.Goals as goal
use Rattle.ksm_book.proofs.state.State.store.Goals.{After-write}

-- a row that is not shared lies on a frame
mapped : (row : Row) → shared_state row.state ≡ false → unmapped_state row.state ≡ true → ⊥
mapped row alone nowhere = grind arith

pub unreachable-requires : goal.unreachable-requires
unreachable-requires c =
    let h = rw c.in-Some-Other.field-0-is at c.in-Some-Other.ensures in
    mapped h.row (sym h.shared ∙ c.if-held.false) (subst (IsServed _ _ _ h.row) (own_lies h c.if-held.false ∙ c.in_default-own.is)
    (served_at c.self.invariant.1.placed c.args.page h.row h.found))

pub write-requires-2 : goal.write-requires-2
write-requires-2 c =
    let alone = sym (rw c.in-Some-Other.field-0-is at c.in-Some-Other.ensures).shared ∙ c.if-held.false in
    let lies = own_lies (rw c.in-Some-Other.field-0-is at c.in-Some-Other.ensures) c.if-held.false ∙ c.in-Some-own.is in
    grind (arith, own_ready c.self.invariant.1 _ _ (rw c.in-Some-Other.field-0-is at c.in-Some-Other.ensures).found alone _ lies)

written : (c : goal.After-store-2) → Does c.self.inside (seen c.store-2.new.self)
    c.write-2.new.keeper (Store c.in-Some-Other.held.spot.page c.args.bytes.now) (Ok Done)
written c =
    let wide : length c.args.bytes.now ≡ PAGE_WORDS = search rules in
    store_written {row = (rw c.in-Some-Other.field-0-is at c.in-Some-Other.ensures).row} c.self.invariant.1 c.self.invariant.0.rows_rise (row_held (rw c.in-Some-Other.field-0-is at c.in-Some-Other.ensures)) _
    c.store-2.ensures (sym (rw c.in-Some-Other.field-0-is at c.in-Some-Other.ensures).shared ∙ c.if-held.false)
    (grind (arith, (rw c.in-Some-Other.field-0-is at c.in-Some-Other.ensures).spot, own_lies (rw c.in-Some-Other.field-0-is at c.in-Some-Other.ensures) c.if-held.false, c.in-Some-own.is))
    c.write-2.ensures.wrote c.write-2.ensures.ledger wide

pub returns-clause-carried : goal.returns-clause-carried
returns-clause-carried c = carried_so c.self.view_is (rw (rw c.in-Some-Other.field-0-is at c.in-Some-Other.ensures).spot) (written c).0

pub invariant_of-self-2 : goal.invariant_of-self-2
invariant_of-self-2 c = lawful c.self.invariant.0 (written c)

pub take_frame-requires-clause-node : goal.take_frame-requires-clause-node
take_frame-requires-clause-node c =
    let homes = find_all _ (λ r. r.home < c.self.inside.pages.shape.nodes) _ _ (rw c.in-Some-Other.field-0-is at c.in-Some-Other.ensures).found c.self.invariant.0.homes in
    grind (arith, c.shape-shape.ensures, (rw c.in-Some-Other.field-0-is at c.in-Some-Other.ensures).home, homes)

pub invariant_of-self-in_default : goal.invariant_of-self-in_default
invariant_of-self-in_default c = (c.self.invariant.0, (turned c.self.invariant.1 c.in_default.ensures.provides).laid)

pub release_if-requires-clause-may : goal.release_if-requires-clause-may
release_if-requires-clause-may c =
    may_left c.self.invariant.1 c.self.invariant.0.rows_rise (row_held (rw c.in-Some-Other.field-0-is at c.in-Some-Other.ensures)) c.in-Some.ensures.provides c.in-Some.ensures.took c.store_on-left.ensures.left

copied : (c : goal.After-release_if) → Does c.self.inside (seen c.store_on-left.new.self)
    c.release_if.new.keeper (Store c.in-Some-Other.held.spot.page c.args.bytes.now) (Ok Done)
copied c =
    let laid = c.self.invariant.1 in
    let rise = c.self.invariant.0.rows_rise in
    let found = row_held (rw c.in-Some-Other.field-0-is at c.in-Some-Other.ensures) in
    let goes = c.store_on-left.ensures.stored in
    let got = resettled laid rise found c.in-Some.ensures.provides c.in-Some.ensures.took c.store_on-left.ensures.left
    (stored c.args.bytes.now) (λ r. refl) refl (sym (rw c.in-Some-Other.field-0-is at c.in-Some-Other.ensures).home) refl goes c.release_if.ensures in
    store_copied {row = (rw c.in-Some-Other.field-0-is at c.in-Some-Other.ensures).row} laid rise found _ goes (rw (rw c.in-Some-Other.field-0-is at c.in-Some-Other.ensures).home at got) (sym (rw c.in-Some-Other.field-0-is at c.in-Some-Other.ensures).shared ∙ c.if-held.true)

pub returns-then-held-clause-carried : goal.returns-then-held-clause-carried
returns-then-held-clause-carried c = carried_so c.self.view_is (rw (rw c.in-Some-Other.field-0-is at c.in-Some-Other.ensures).spot) (copied c).0

pub invariant_of-self-then-held : goal.invariant_of-self-then-held
invariant_of-self-then-held c = lawful c.self.invariant.0 (copied c)

-- the page that was merged or Zero is due beside what was
pub returns-then-held-clause-due : goal.returns-then-held-clause-due
returns-then-held-clause-due c = λ known.
    let pages = c.note_break.new.due.pages in
    grind (arith, (copied c).0.state, c.self.view_is, c.note_break.ensures.broken c.args.bytes.now known)

-- bytes are stored to a page that is private
kept : (c : After-write)
    → Does c.self.inside (seen c.store.new.self) c.write.new.keeper (Store c.in-Some-Private.spot.page c.args.bytes.now) (Ok Done)
kept c =
    let wide : length c.args.bytes.now ≡ PAGE_WORDS = search rules in
    let told = private_told (seen c.self.inside.pages) c.args.page c.in-Some-Private.spot c.in-Some-Private.frame (rw c.in-Some-Private.field-0-is at c.in-Some-Private.ensures) in
    store_written c.self.invariant.1 c.self.invariant.0.rows_rise told.1.1 _ c.store.ensures (grind (arith, told)) told.2
    c.write.ensures.wrote c.write.ensures.ledger wide

pub write-requires : goal.write-requires
write-requires c =
    let told = private_told (seen c.self.inside.pages) c.args.page c.in-Some-Private.spot c.in-Some-Private.frame (rw c.in-Some-Private.field-0-is at c.in-Some-Private.ensures) in
    grind (arith, own_ready c.self.invariant.1 _ _ told.1.1 (grind (arith, told)) _ told.2)

pub invariant_of-self : goal.invariant_of-self
invariant_of-self c = lawful c.self.invariant.0 (kept (goal.at.invariant_of-self c).After-write)

pub returns-in-Some-Private-clause-carried : goal.returns-in-Some-Private-clause-carried
returns-in-Some-Private-clause-carried c =
    let w = (goal.at.returns-in-Some-Private-clause-carried c).After-write in
    carried_so w.self.view_is (rw (private_told (seen w.self.inside.pages) w.args.page w.in-Some-Private.spot w.in-Some-Private.frame (rw w.in-Some-Private.field-0-is at w.in-Some-Private.ensures)).0) (kept w).0

pub returns-in-Some-Private-clause-due : goal.returns-in-Some-Private-clause-due
returns-in-Some-Private-clause-due c = λ known.
    let w = (goal.at.returns-in-Some-Private-clause-due c).After-write in
    let told = private_told (seen w.self.inside.pages) w.args.page w.in-Some-Private.spot w.in-Some-Private.frame (rw w.in-Some-Private.field-0-is at w.in-Some-Private.ensures) in
    let due = stored_due w.args.self.now.state w.in-Some-Private.spot.page w.args.bytes.now w.args.due.now.pages
    (rw (← w.self.view_is) w.self.invariant.0.rows_rise) (rw (← w.self.view_is) (grind (arith, told))) (w.requires.due known)
    (rw (← w.self.view_is) (grind (arith, told))) in
    grind (arith, (kept w).0.state, w.self.view_is, due)

shared_calm : (row : Row) → shared_state row.state ≡ true → waiting_state row.state ≡ false
shared_calm row is = grind arith

-- as many rows wait later then as did
pub returns-in-Some-Private-clause-later : goal.returns-in-Some-Private-clause-later
returns-in-Some-Private-clause-later c =
    let w = (goal.at.returns-in-Some-Private-clause-later c).After-write in
    let told = private_told (seen w.self.inside.pages) w.args.page w.in-Some-Private.spot w.in-Some-Private.frame (rw w.in-Some-Private.field-0-is at w.in-Some-Private.ensures) in
    let calm : waiting_state told.1.0.state ≡ false = grind (arith, told) in
    let same = later_still w.args.due.now.reach (state_of (seen w.self.inside.pages) w.self.inside.cursor w.self.inside.passes) w.in-Some-Private.spot.page (stored w.args.bytes.now)
    told.1.0 w.self.invariant.0.rows_rise told.1.1 calm refl in
    grind (arith, (kept w).0.state, w.self.view_is, w.requires.later, same)

pub returns-then-held-clause-later : goal.returns-then-held-clause-later
returns-then-held-clause-later c =
    let h = rw c.in-Some-Other.field-0-is at c.in-Some-Other.ensures in
    let calm = shared_calm h.row (sym h.shared ∙ c.if-held.true) in
    let same = later_still c.args.due.now.reach (state_of (seen c.self.inside.pages) c.self.inside.cursor c.self.inside.passes) c.in-Some-Other.held.spot.page (stored c.args.bytes.now)
    h.row c.self.invariant.0.rows_rise (row_held h) calm refl in
    grind (arith, (copied c).0.state, c.self.view_is, c.requires.later, same, c.note_break.ensures.rest)
