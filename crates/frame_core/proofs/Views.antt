-- After every event, what the keeper knows is as its ledger says, and what the other seats know is as it was.
use Rattle.std.proofs.Common.{◌≡◌, ℕ, Bool, true, false, subst, refl}
use Rattle.frame_core.proofs.Names.{Shape, Event, Reader, Keeper, KeeperStep, FollowsLedger, LedgerTells, ChangesOwnView, may_step, keeper_finds, ledger_after, phase_at, may_read, reader_finds}
use Rattle.frame_core.proofs.Names.{seat_after, State, step, answer, after, only_if, after_keeper}
use Rattle.frame_core.proofs.Decides.{decides}
use Rattle.frame_core.proofs.Lists.{get_set_else}

follows : (sh : Shape) (s : State) (e : KeeperStep) (b : Bool) → may_step sh s.ledger e ≡ b
    → let o = only_if {A = ℕ × State} b (keeper_finds s e, after_keeper sh s e (keeper_finds s e)) in FollowsLedger sh s e (answer o) (after s o)
follows sh s e true is = record {
  allowed = ((λ h. (decides sh s.ledger e).0 is), (λ m. tt));
  after = λ found h. let same : keeper_finds s e ≡ found = cc (h) in subst (λ (n : ℕ). ledger_after sh s.ledger e (keeper_finds s e) ≡ ledger_after sh s.ledger e n) same refl;
}
follows sh s e false is = record {
  allowed = ((λ h. absurd h), (λ m. let may = (decides sh s.ledger e).1 m in absurd (cc (is, may))));
  after = λ found h. absurd (cc (h));
}

-- each step of the keeper is allowed, and leads, as the ledger says
pub ledger_tells : (sh : Shape) (s : State) (e : Event) → LedgerTells sh s e (answer (step sh s e)) (after s (step sh s e))
ledger_tells sh s (Reader q e) = tt
ledger_tells sh s (Keeper e) = follows sh s e (may_step sh s.ledger e) refl

own : (s : State) (e : Event) (b : Bool) (a : ℕ × State) → ChangesOwnView s e a.1 → ChangesOwnView s e s → ChangesOwnView s e (after s (only_if b a))
own s e true a made same = made
own s e false a made same = same

-- an event leaves what other seats know as it was
pub changes_own_view : (sh : Shape) (s : State) (e : Event) → ChangesOwnView s e (after s (step sh s e))
changes_own_view sh s (Reader q e) = own s (Reader q e) (may_read sh e (phase_at s q)) _
    (refl, λ k ne. get_set_else s.seats q k (seat_after sh e (phase_at s q) (reader_finds s e (phase_at s q))) ne) (refl, λ k ne. refl)
changes_own_view sh s (Keeper e) = own s (Keeper e) (may_step sh s.ledger e) _ refl refl
