-- What follows from the steps of a command: the frames that they gave, and what the log shows of the answer.
use Rattle.ksm_book.proofs.Names.{Add, Allocates, AllocatesOn, Answer, append-nil, arith, BookState, BookView, Bool, CarriedOut, cases_eq, cases_lt, Command, Contains, Contains-append_right}
use Rattle.ksm_book.proofs.Names.{Contains-push, contains_filter, count_in, Done, Drop, dup_frame, DupRow, Dying, dying_on, Err, false, Fault, find_passes, FindsHeld, FindsNone, frame_at, Frames}
use Rattle.ksm_book.proofs.Names.{free_kind, Freeze, get_or-range_with_len, get_or-set_other, get_or-set_same, get_or_past, given_by, Gives, GuestPage, HasLost, HasMoved, HasShown, if◌then◌else◌}
use Rattle.ksm_book.proofs.Names.{InUse, IsAnswerOrMemory, IsCarried, IsIdle, IsLowestFree, KeeperStep, KeeperView, leaving, Ledger, ledger_after, length-range_with_len, length-set, List, live_dup_at}
use Rattle.ksm_book.proofs.Names.{loads, Log, MakesSteps, map, Mapped, mapped, MatchBool, MatchOption, MoveDup, MovePage, Moves, nodes_got, NoFrame, None, NoneLeft, Ok, Option, option_and_then}
use Rattle.ksm_book.proofs.Names.{option_to_list, Performs, Provides, Prune, Pruned, pruning, Publish, puts, Raise, Reap, refl, Register, replayed, replicate, Resettles, ResettlesEach, rewriting, Row}
use Rattle.ksm_book.proofs.Names.{Scan, Scanned, scanning, set_past, SetAcross, SetLimit, SetRun, Shape, shared_state, Some, stepped, steps_of, Store, StoresTo, subst, suc, sym, TakesSteps, true}
use Rattle.ksm_book.proofs.Names.{Unmerge, Unmerged, UnmergesTo, Withdraw, zero, [], ℕ, ◌*◌, ◌++◌, ◌+◌, ◌-◌, ◌<◌, ◌∷◌, ◌≡◌, ◌≤◌}
use Rattle.ksm_book.proofs.Made.{chained, first_made, made_none, set_holds, step_made}
use Rattle.ksm_base.proofs.Reasons.{has_reason}

-- none of these steps gives a frame
abbrev pub GivesNone : List KeeperStep → Type 0
GivesNone [] = Unit {0}
GivesNone (e ∷ es) = (given_by e ≡ None) × GivesNone es

-- where two lists of steps give no frame, the one followed by the other gives none
pub quiet_both : (xs ys : List KeeperStep) → GivesNone xs → GivesNone ys → GivesNone (xs ++ ys)
quiet_both [] ys q r = r
quiet_both (x ∷ xs) ys q r = (q.0, quiet_both xs ys q.1 r)

-- stores of words give no frame
pub quiet_puts : (f i : ℕ) (ws : List ℕ) → GivesNone (steps_of (puts f i ws))
quiet_puts f i [] = tt
quiet_puts f i (w ∷ ws) = (refl, quiet_puts f (i + 1) ws)

-- loads of words give no frame
pub quiet_loads : (f i : ℕ) (ws : List ℕ) → GivesNone (steps_of (loads f i ws))
quiet_loads f i [] = tt
quiet_loads f i (w ∷ ws) = (refl, quiet_loads f (i + 1) ws)

-- steps made of a list, each of which gives no frame, give none
pub quiet_map : {X : Type 0} (make : X → KeeperStep) → ((x : X) → given_by (make x) ≡ None) → (xs : List X)
    → GivesNone (map make xs)
quiet_map make none [] = tt
quiet_map make none (x ∷ xs) = (none x, quiet_map make none xs)

-- references that come to a frame give no frame
pub quiet_adds : (n f : ℕ) → GivesNone (replicate n (Add f))
quiet_adds zero f = tt
quiet_adds (suc n) f = (refl, quiet_adds n f)

-- a page that leaves its frame, if it has one, makes no step that gives a frame
pub quiet_leaving : (o : Option ℕ) → GivesNone (leaving o)
quiet_leaving None = tt
quiet_leaving (Some f) = (refl, tt)

-- a part of the log whose steps give no frame gave none
pub part_did : (v w : KeeperView) {part : Log} → w ≡ stepped v part → GivesNone (steps_of part) → Allocates v w [] part
part_did v w {part} is quiet = let gives = by v.ledger part quiet in grind arith
  where
    by : (k : Ledger) (part : Log) → GivesNone (steps_of part) → Gives v.table.shape k [] part
    by k [] q = refl
    by k (s ∷ part) q = rw q.0 (tt, by (ledger_after v.table.shape k s.0 s.1) part q.1)

-- steps that give no frame gave none by the part of the log in which they were made
pub quiet_did : {v w : KeeperView} {steps : List KeeperStep} (m : MakesSteps v w steps) → GivesNone steps → Allocates v w [] m.part
quiet_did {v} {w} m quiet = grind (arith, part_did)

-- a keeper that made steps that give no frame gave none
pub quiet_does : {v w : KeeperView} {steps : List KeeperStep} → MakesSteps v w steps → GivesNone steps → AllocatesOn v w []
quiet_does m quiet = (m.part, quiet_did m quiet)

-- frames given on some nodes and then on others were given on the nodes of both, in order
pub does_then : {u v w : KeeperView} {ms ns : List ℕ} → AllocatesOn u v ms → AllocatesOn v w ns → AllocatesOn u w (ms ++ ns)
does_then a b = (a.0 ++ b.0, chained a.1 b.1)

-- the lowest free frame of a node was raised, and no other was given
raised_did : {v w : KeeperView} {g node : ℕ} {steps : List KeeperStep} → IsLowestFree v.table.shape v.ledger node g → MakesSteps v w (Raise g ∷ steps) → GivesNone steps
    → (found : ℕ) × (part : Log) × Allocates v w (node ∷ []) ((Raise g, found) ∷ part)
raised_did {v} {g = g} {node} lowest m quiet =
    let first = first_made m in
    let rest = quiet_does first.1 quiet in
    (first.0, rest.0, chained {ms = node ∷ []} {xs = (Raise g, first.0) ∷ []} (grind arith) rest.1)

-- a keeper that reaped the dying frames of a node gave no frame
pub searched_does : {v w : KeeperView} (node : ℕ) → MakesSteps v w (map Reap (dying_on v.table.shape v.ledger node)) → AllocatesOn v w []
searched_does node m = quiet_does m (quiet_map Reap (λ f. refl) _)

-- a keeper that provided a frame with bytes gave one frame, on the node asked for
pub provides_does : {v w : KeeperView} {node : ℕ} {bytes : List ℕ} {g : ℕ} → Provides v w node bytes g → AllocatesOn v w (node ∷ [])
provides_does {node = node} {bytes} {g} h =
    let searched = searched_does _ h.finds.reaped in
    let lowest : IsLowestFree h.searched.table.shape h.searched.ledger node g =
    grind (arith, searched.1.table, h.finds.lowest) in
    let raise = raised_did lowest h.fills (grind (arith, quiet_both, quiet_puts)) in
    does_then searched (_, raise.2)

-- a page that was resettled was given one frame, on the node asked for
pub resettles_does : {v w : Mapped} {page : GuestPage} {node : ℕ} {bytes : List ℕ} → Resettles v w page node bytes → AllocatesOn v.keeper w.keeper (node ∷ [])
resettles_does h = does_then (provides_does h.provides) (quiet_does h.leaves (quiet_leaving _))

-- pages that were resettled one after another were given a frame each, on their homes
pub each_does : (rows : List Row) (v w : Mapped) → ResettlesEach rows v w → AllocatesOn v.keeper w.keeper (map (λ r. r.home) rows)
each_does [] v w h = quiet_does (made_none h.keeper) tt
each_does (r ∷ rows) v w h = does_then (resettles_does h.1) (each_does rows h.0 w h.2)

-- a frame that is dying once a frame was reaped was dying before, and a count above zero was found if it is that frame
dies_still : (sh : Shape) (k : Ledger) (g n f : ℕ) → (frame_at (ledger_after sh k (Reap g) n) f).kind ≡ Dying → ((frame_at k f).kind ≡ Dying) × (f ≡ g → 1 ≤ count_in n)
dies_still sh k g n f still = grind (arith, cases_eq, cases_lt, set_past, get_or-set_same, get_or-set_other, get_or_past)

-- frames were reaped: one that is dying still was so before, and where it was among them a count above zero was found
waits : (sh : Shape) (k : Ledger) (fs : List ℕ) (part : Log) (f : ℕ) → steps_of part ≡ map Reap fs → (frame_at (replayed sh k part) f).kind ≡ Dying
    → ((frame_at k f).kind ≡ Dying) × (Contains fs f → (n : ℕ) × (1 ≤ count_in n) × Contains part (Reap f, n))
waits sh k [] [] f are still = (still, λ has. absurd (omega arith))
waits sh k (g ∷ fs) (s ∷ part) f are still =
    let first : s.0 ≡ Reap g = grind arith in
    let rest = waits sh (ledger_after sh k s.0 s.1) fs part f (grind arith) still in
    let now = dies_still sh k g s.1 f (rw first at rest.0) in
    (now.0, at first now.1 rest.1)
  where
    at : s.0 ≡ Reap g → (f ≡ g → 1 ≤ count_in s.1) → (Contains fs f → (n : ℕ) × (1 ≤ count_in n) × Contains part (Reap f, n))
        → Contains (g ∷ fs) f → (n : ℕ) × (1 ≤ count_in n) × Contains (s ∷ part) (Reap f, n)
    at first now later (zero, lt, is) = (s.1, now (sym is), (0, omega arith, grind arith))
    at first now later (suc i, lt, is) = let m = later (i, omega arith, is) in (m.0, m.1, (suc m.2.0, omega arith, m.2.2))
waits sh k _ _ f are still = absurd (grind arith)

-- where no frame of a node was found, each that is dying still was found with a count above zero
pub none_left : {v w : KeeperView} {node : ℕ} → FindsNone v w node → NoneLeft v w node
none_left {v} {w} {node} h =
    let sh = v.table.shape in
    let size = sh.frames_per_node in
    let fs = dying_on sh v.ledger node in
    let m = h.reaped in
    record {
      part = m.part;
      did = quiet_did m (quiet_map Reap (λ f. refl) fs);
      waited = λ f low high still.
          let dying : (frame_at (replayed sh v.ledger m.part) f).kind ≡ Dying = grind (arith, m.after) in
          let lt : f - node * size < size = omega arith in
          let at = get_or-range_with_len (node * size) _ _ f lt in
          let long = length-range_with_len (node * size) size in
          let waited = waits sh v.ledger fs _ f m.are dying in
          waited.1 (grind (arith, contains_filter, waited.0));
      none = h.none;
    }

-- where a dup's frame is held, the log shows that the exchange of its count was tried, and what it found
pub lost : {v w : Mapped} {rows : List Row} (dup : DupRow) {node : ℕ} → FindsHeld v w rows dup node → HasLost v.keeper w.keeper
lost {v} {rows = rows} dup h =
    let f = dup_frame v.frame rows dup.number in
    let step = step_made h.freezes in
    let searched = searched_does _ h.finds.reaped in
    record {
      part = searched.0 ++ (Freeze f, step.0) ∷ [];
      did = chained searched.1 (part_did _ _ {part = (Freeze f, step.0) ∷ []} step.1 (refl, tt));
      frame = f;
      found = step.0;
      tried = Contains-push _ (Freeze f, step.0);
      other = grind (arith, step.1, cases_lt, get_or-set_same, get_or_past, length-set);
    }

-- the dup that was found stands at the place that was asked for
pub place_is : (b : BookState) (place : ℕ) (dup : DupRow) → Some dup ≡ live_dup_at b place → dup.place ≡ place
place_is b place dup found = grind (arith, find_passes)

-- a dup that moved: a frame of the node was raised, and published at the dup's place
pub moved : (v w : Mapped) (rows : List Row) (dup : DupRow) (node : ℕ) → Moves v w rows dup node → HasMoved v.keeper w.keeper dup.place node
moved v w rows dup node h =
    let f : ℕ = dup_frame v.frame rows dup.number in
    let searched = searched_does node h.finds.reaped in
    let step = step_made h.freezes in
    let lowest : IsLowestFree h.frozen.table.shape h.frozen.ledger node h.got =
    grind (arith, step.1, searched.1.table, h.finds.lowest, get_or-set_other, set_holds (λ x. free_kind x.kind ≡ false) h.searched.ledger.frames f) in
    let raise = raised_did lowest h.mounts (grind (arith, quiet_both, quiet_loads, quiet_puts, quiet_adds)) in
    let raised : Log = (Raise h.got, raise.0) ∷ raise.1 in
    let before = searched.0 ++ h.freezes.part in
    let shows : KeeperStep × ℕ = (Publish dup.place h.got, 0) in
    record {
      part = before ++ (raised ++ shows ∷ []);
      did = chained (chained searched.1 (quiet_did h.freezes (refl, tt))) (chained raise.2 (part_did _ _ {part = shows ∷ []} h.named (refl, tt)));
      frame = h.got;
      before = raise.0;
      raised = Contains-append_right before (raised ++ shows ∷ []) _ (0, omega arith, refl);
      published = Contains-append_right before _ _ (Contains-push raised shows);
    }

-- rows that were unmerged, to the last or up to a stop, were given a frame each, on their homes
pub unmerges_does : (rows : List Row) (stop : Option Fault) (v w : Mapped) → UnmergesTo rows stop v w → AllocatesOn v.keeper w.keeper (map (λ r. r.home) rows)
unmerges_does rows None v w h = each_does _ v w h
unmerges_does rows (Some (NoFrame node)) v w h =
    let left = none_left h.2.searched in
    subst (AllocatesOn v.keeper w.keeper) (append-nil (map (λ r. r.home) rows)) (does_then (each_does _ v h.0 h.1) (left.part, left.did))
unmerges_does rows _ v w h = absurd h

-- what visits do to the frames gives no frame
pub quiet_scanning : (n : ℕ) (b : BookState) (frame : Frames) → GivesNone (scanning n b frame).steps
quiet_scanning zero b frame = tt
quiet_scanning (suc n) b frame = grind (arith, quiet_both, quiet_scanning n b frame, quiet_leaving)

-- where no step was made, no frame was given
idle_does : {v w : Mapped} → IsIdle v w → AllocatesOn v.keeper w.keeper []
idle_does h = quiet_does (made_none h.keeper) tt

stored_does : (v w : Mapped) (bytes : List ℕ) (row : Row) (shared : Bool)
    → MatchBool shared (Resettles v w row.page row.home bytes) (Performs v w (rewriting v.frame row.page bytes))
    → AllocatesOn v.keeper w.keeper (option_to_list (if shared then Some row.home else None))
stored_does v w bytes row true h = resettles_does h
stored_does v w bytes row false h = quiet_does h.made (quiet_puts _ 0 _)

store_does : (v w : Mapped) (bytes : List ℕ) (found : Option Row) → MatchOption found ⊥ (StoresTo v w bytes)
    → AllocatesOn v.keeper w.keeper (option_to_list (option_and_then (λ r. if shared_state r.state then Some r.home else None) found))
store_does v w bytes found h = grind (arith, stored_does)

moved_does : (v w : Mapped) (node : ℕ) (row : Row) (home : Bool) → MatchBool home (IsIdle v w) (Resettles v w row.page node row.bytes)
    → AllocatesOn v.keeper w.keeper (option_to_list (if home then None else Some node))
moved_does v w node row true h = idle_does h
moved_does v w node row false h = resettles_does h

prune_does : (v w : BookView) (same : Bool)
    → MatchBool same (IsIdle (mapped v) (mapped w)) (Performs (mapped v) (mapped w) (pruning v.state.rows v.state.dups v.frame)) → AllocatesOn v.keeper w.keeper []
prune_does v w true h = idle_does h
prune_does v w false h = quiet_does h.made (quiet_map (λ (d : DupRow). Withdraw d.place) (λ d. refl) _)

frames_given : (v w : BookView) (command : Command) (answer : Answer) → TakesSteps v w command answer → AllocatesOn v.keeper w.keeper (nodes_got v.state answer command)
frames_given v w (Register page node bytes) (Ok Done) h = provides_does h.provides
frames_given v w (Drop page) (Ok Done) h = quiet_does h.made (quiet_leaving _)
frames_given v w (Store page bytes) (Ok Done) h = store_does _ _ _ _ h
frames_given v w (Scan n) (Ok (Scanned made stop)) h = quiet_does h.made (quiet_scanning made v.state v.frame)
frames_given v w Prune (Ok (Pruned count)) h = prune_does v w false h
frames_given v w (Unmerge guest) (Ok (Unmerged k stop)) h = unmerges_does _ _ _ _ h
frames_given v w (MovePage page node) (Ok Done) h = grind (arith, moved_does)
frames_given v w (MoveDup place node) (Ok Done) h = grind (arith, moved)
frames_given v w (MoveDup place node) (Err InUse) h = grind (arith, lost)
frames_given v w (SetRun run) (Ok (Unmerged k stop)) h = unmerges_does _ _ _ _ h
frames_given v w (SetAcross across) (Ok Done) h = prune_does v w _ h
frames_given v w (SetLimit limit) (Ok Done) h = prune_does v w _ h
frames_given v w _ (Err (NoFrame node)) h = let left = none_left h.searched in (left.part, left.did)
frames_given v w _ (Ok Done) h = idle_does h
frames_given v w _ _ h = idle_does h

shown_so : (v w : BookView) (command : Command) (answer : Answer) → IsAnswerOrMemory v.state command answer → TakesSteps v w command answer
    → HasShown v.state v.keeper w.keeper answer command
shown_so v w (Unmerge guest) (Ok (Unmerged k (Some (NoFrame node)))) is h = grind (arith, each_does, none_left)
shown_so v w (SetRun run) (Ok (Unmerged k (Some (NoFrame node)))) is h = grind (arith, each_does, none_left)
shown_so v w (MoveDup place node) (Ok Done) is h = grind (arith, place_is, moved)
shown_so v w (MoveDup place node) (Err InUse) is h = grind (arith, lost)
shown_so v w command (Ok (Unmerged k (Some (NoFrame node)))) is h = grind (arith, has_reason)
shown_so v w _ (Err (NoFrame node)) is h = none_left h.searched
shown_so v w _ _ is h = tt

-- a command that was carried out leaves the keeper its table, gave the frames that it needed, and its log shows why it is answered so
pub carried_out : {v w : BookView} {command : Command} {answer : Answer} → IsCarried v w command answer → CarriedOut v w command answer
carried_out {v} {w} {command} {answer} h = grind (arith, frames_given, shown_so)
