use Rattle.std.proofs.Common.{rules, ◌≡◌, ℕ, ◌<◌, [], ◌∷◌, ◌++◌, eqb, arith, ap, subst, ◌∙◌, sym, refl}
use Rattle.frame_core.specs.Seat.{nothing_known}
use Rattle.frame_table.proofs.CoreNames.{Shape, LoadFrame, Exchange, Life, Idle, Held, aim_of}
use Rattle.frame_table.proofs.Names.{Zero, Old, Won, lookup_so_far, IsAlive, ReaderLog, IsIn, shape_in, known_in}
use Rattle.frame_table.proofs.Looks.{Tries, begins, stands, last_round, goes_on, word_names, ended, tried_so_far}
use Rattle.frame_table.proofs.pass.Pass.find.Goals as goal

pub try_round-requires-clause-phase : goal.try_round-requires-clause-phase
try_round-requires-clause-phase c =
    let w = c.load_place-named.result in
    let more : c.rounds.i < c.args.table.now.shape.tries = omega (arith, c.tries-i-end.ensures.0) in (
      aim_of c.args.place c.load_place-named.result,
      c.rounds.i,
      (word_names w c.in-Some.life (eqb w 0) refl (sym c.of_word.ensures ∙ c.in-Some.is)).1,
      stands c.args.table.now.shape c.args.place c.load_place-named.result c.args.self.log c.rounds.i c.rounds.seat.me c.rounds.invariant.1 more,
    )

pub rounds-preserved : goal.rounds-preserved
rounds-preserved c =
    let more : c.rounds.i < c.args.table.now.shape.tries = omega (arith, c.tries-i-end.ensures.0) in (
      c.in-Lost.ensures.seat.0 ∙ c.rounds.invariant.0,
      goes_on c.args.table.now.shape c.args.place c.load_place-named.result c.args.self.log c.rounds.i c.rounds.seat.me c.rounds.invariant.1 c.try_round.new.seat.me c.in-Lost.field-0 c.in-Lost.field-1 more c.in-Lost.ensures.round,
      omega (arith, c.take.ensures, c.rounds.invariant.2),
    )

pub rounds-init : goal.rounds-init
rounds-init c =
    let w = c.load_place-named.result in
    let some = (word_names w c.in-Some.life (eqb w 0) refl (sym c.of_word.ensures ∙ c.in-Some.is)).0 in
    let me = c.self.inside.seat.me in
    let sh = c.args.table.now.shape in
    let m = c.load_place-named.new.seat.me in
    let same : shape_in me ≡ sh = ap (λ v. v.table.shape) c.self.view_is ∙ ap (λ n. n.shape) c.requires.own in
    let idle : IsIn sh Idle me = subst (λ (x : Shape). IsIn x Idle me) same c.self.invariant in (
      search rules,
      subst (λ (l : ReaderLog). Tries sh l c.args.place w 0 m) (ap (λ v. v.log) c.self.view_is)
          (begins sh c.args.place w me m idle c.load_place-named.ensures.step.0 some (omega (arith, c.tries-i-end.ensures))),
      omega (arith, c.permits-permits.ensures),
    )

pub returns-in-Zero : goal.returns-in-Zero
returns-in-Zero c =
    let w : ℕ = c.load_place-named.result in
    let n : ℕ = c.in-Zero.field-0 in
    let t = c.rounds.invariant.1 in
    let last : ReaderLog = (LoadFrame, n) ∷ [] in
    let more : c.rounds.i < c.args.table.now.shape.tries = omega (arith, c.tries-i-end.ensures.0) in
    let g = last_round c.args.table.now.shape c.args.place w c.args.self.log c.rounds.i c.rounds.seat.me t (Zero n) c.try_round.new.seat.me more c.in-Zero.ensures.round in
    let few = tried_so_far c.args.self.table c.args.table.now c.rounds.i w c.in-Some.life t.0 (sym c.of_word.ensures ∙ c.in-Some.is) more t.1 t.2 c.requires.own in
    let e = ended c.args.self.table c.args.table.now c.try_round.new.seat.table_id c.try_round.new.seat.me Idle c.args.self.log c.args.place w t.0 last (c.in-Zero.ensures.seat.0 ∙ c.rounds.invariant.0) c.requires.own g.1 in
    (e.0, (lookup_so_far c.args.place w t.0 ++ last, e.1, (w, t.0, n, few, g.0, refl)))

pub returns-in-Old : goal.returns-in-Old
returns-in-Old c =
    let w : ℕ = c.load_place-named.result in
    let n : ℕ = c.in-Old.field-0 in
    let t = c.rounds.invariant.1 in
    let last : ReaderLog = (LoadFrame, n) ∷ [] in
    let more : c.rounds.i < c.args.table.now.shape.tries = omega (arith, c.tries-i-end.ensures.0) in
    let g = last_round c.args.table.now.shape c.args.place w c.args.self.log c.rounds.i c.rounds.seat.me t (Old n) c.try_round.new.seat.me more c.in-Old.ensures.round in
    let few = tried_so_far c.args.self.table c.args.table.now c.rounds.i w c.in-Some.life t.0 (sym c.of_word.ensures ∙ c.in-Some.is) more t.1 t.2 c.requires.own in
    let e = ended c.args.self.table c.args.table.now c.try_round.new.seat.table_id c.try_round.new.seat.me Idle c.args.self.log c.args.place w t.0 last (c.in-Old.ensures.seat.0 ∙ c.rounds.invariant.0) c.requires.own g.2 in
    (e.0, (lookup_so_far c.args.place w t.0 ++ last, e.1, (w, t.0, n, few, g.0, g.1, refl)))

pub returns-in-Won : goal.returns-in-Won
returns-in-Won c =
    let w : ℕ = c.load_place-named.result in
    let n : ℕ = c.in-Won.field-0 in
    let t = c.rounds.invariant.1 in
    let last : ReaderLog = (LoadFrame, n) ∷ (Exchange, n) ∷ [] in
    let more : c.rounds.i < c.args.table.now.shape.tries = omega (arith, c.tries-i-end.ensures.0) in
    let g = last_round c.args.table.now.shape c.args.place w c.args.self.log c.rounds.i c.rounds.seat.me t (Won n) c.try_round.new.seat.me more c.in-Won.ensures.round in
    let few = tried_so_far c.args.self.table c.args.table.now c.rounds.i w c.in-Some.life t.0 (sym c.of_word.ensures ∙ c.in-Some.is) more t.1 t.2 c.requires.own in
    let e = ended c.args.self.table c.args.table.now c.try_round.new.seat.table_id c.try_round.new.seat.me (Held (aim_of c.args.place w) nothing_known) c.args.self.log c.args.place w t.0 last (c.in-Won.ensures.seat.0 ∙ c.rounds.invariant.0) c.requires.own g.1 in
    let life = (word_names w c.in-Some.life (eqb w 0) refl (sym c.of_word.ensures ∙ c.in-Some.is)).1 in
    let alive = subst (λ (x : Life). IsAlive x.generation n) life g.0 in (
      e.0,
      refl,
      ap known_in g.1,
      (lookup_so_far c.args.place w t.0 ++ last, e.1, (w, t.0, n, few, alive, ap (λ (x : Life). x.frame) (sym life), ap (λ (x : Life). x.generation) (sym life), refl)),
    )
