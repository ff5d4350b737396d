use Rattle.pending.proofs.Vocabulary.{ap, refl, subst, sym, AllButThose, IsAsleep, PendingList, step_moment}
use Rattle.pending.proofs.AskingLemmas.{asks_awake}
use Rattle.pending.specs.machine.AskedEntries.{BeginsAsking}
use Rattle.sleepers.proofs.AgendaLemmas.{awake_in}
use Rattle.pending.proofs.pending.Pending.asking.Goals as goal

pub of-requires-clause-placed : goal.of-requires-clause-placed
of-requires-clause-placed c = c.self.invariant.1.placed

pub of-requires-clause-among : goal.of-requires-clause-among
of-requires-clause-among c = awake_in _ c.self.inside.sleepers.entries c.in_ok-agenda.agenda c.in_ok-agenda.ensures

pub returns : goal.returns
returns c =
    let all = c.self.inside.sleepers.entries in
    let agenda = c.in_ok-agenda.agenda in
    let moment = step_moment c.args.inserted c.args.time in
    let awake = subst (λ n. AllButThose (IsAsleep c.args.events.now n) all agenda) c.step_moment.ensures c.in_ok-agenda.ensures in
    subst (BeginsAsking c.args.events.now moment c.args.self.now.listed) (sym c.of.ensures) (record {
      all = ap (λ (p : PendingList). p.listed) c.self.view_is;
      ahead = asks_awake c.args.events.now moment all agenda awake;
      asked = refl;
    })
