use Rattle.std.proofs.Common.{rules, ◌≡◌, ◌<◌, ◌≤◌, None, ℕ, Option, ap, ◌∙◌, subst, arith}
use Rattle.ksm_base.specs.Values.{frames_of}
use Rattle.ksm_audit.specs.Working.{Sat, Claimed}
use Rattle.ksm_audit.specs.declared.claims.Deal.{Deal}
use Rattle.ksm_audit.proofs.Working.{same_deal, still_none, one_at_most, keeps_past, keeps_on, stop_on, made_on, same_table, as_many}
use Rattle.ksm_audit.proofs.work.work.Goals as goal

pub answer-pass-requires-clause-room : goal.answer-pass-requires-clause-room
answer-pass-requires-clause-room g c =
    let k = c.places.invariant.keeps.room in
    let r = c.places.invariant.room in
    let d = c.in-Some-claim.ensures.claimed.0 in
    let n = c.in-Some-claim.ensures.claimed.1.1 in
    let p = c.places-in-places.ensures in
    let m = as_many c.places.lines.items in
    omega (arith, k, r, d, n, p, m)

pub places-preserved : goal.places-preserved
places-preserved g c =
    let F = frames_of c.args.table.now.shape in
    let claimed = c.in-Some-claim.ensures.claimed in
    let at = c.in-Some-claim.place in
    let lt : at < F = omega (arith, claimed.0, c.places-in-places.ensures) in
    let a = c.answer-pass.ensures.answers in
    let may : ℕ → Type 0 = g.G.Gate.may_refuse c.args.gate.now in
    let made = c.places.invariant.made in
    let next = ap (λ (q : Sat). q.0.next) claimed.1.0 in
    record {
      own = same_table may at _ _ _ _ _ _ a ∙ c.places.invariant.own;
      seat = c.in-Some-claim.ensures.own ∙ c.places.invariant.seat;
      keeps = keeps_on may at _ _ _ _ _ _ a F c.places.seat.me _ c.places.invariant.keeps lt claimed.1;
      next = omega (arith, next, lt);
      deal = ap (λ (d : Deal). d.places) (same_deal _ _ _ claimed.1) ∙ c.places.invariant.deal;
      vain = still_none _ _ _ claimed.1 c.places.invariant.vain (omega (arith, lt, c.places.invariant.deal));
      room = omega (arith, c.answer-pass.ensures.room, c.places.invariant.room);
      stop = stop_on may at _ _ _ _ _ _ a F c.places.invariant.stop lt;
      made = (made.0, made.1, made_on may at _ _ _ _ _ _ a made.0 made.2);
      empty = c.places.invariant.empty;
    }

pub returns : goal.returns
returns g c =
    let F = frames_of c.args.table.now.shape in
    let none : c.claim.result ≡ None = search rules in
    let past = subst (λ (r : Option ℕ). Claimed c.places-in-places.result c.places.seat.me r c.claim.new.seat.me) none c.claim.ensures.claimed in
    let le : F ≤ past.0 = omega (arith, past.1, c.places-in-places.ensures) in
    let next = ap (λ (q : Sat). q.0.next) past.2.0 in
    let made = c.places.invariant.made in
    record {
      seat = c.claim.ensures.own ∙ c.places.invariant.seat;
      keeps = keeps_past F _ _ c.places.seat.me c.places.invariant.keeps past.0 _ past.2 le;
      last = omega (arith, next, le);
      vain = one_at_most _ _ _ past.2 c.places.invariant.vain;
      stop = c.places.invariant.stop;
      made = (made.0, c.places.pass, made.1, c.replace-old.ensures.after, made.2);
    }
