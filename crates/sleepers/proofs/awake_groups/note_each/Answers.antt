use Rattle.sleepers.proofs.Vocabulary.{ℕ, Contains, ⊎_elim, sym, subst, arith, entries_at, IsGroupFound}
use Rattle.sleepers.proofs.GroupLemmas.{within_at}
use Rattle.sleepers.proofs.NotedGroupLemmas.{below_next, found_on, keeps_on}
use Rattle.sleepers.proofs.awake_groups.note_each.Goals as goal

pub loop-number-preserved : goal.loop-number-preserved
loop-number-preserved g c =
    let groups = c.args.groups.now in
    let old = c.loop-number.index in
    let new = c.note_first.new.index in
    let kept = c.in_ok-note_first.ensures.kept in
    let is = c.loop-number.invariant in
    record {
      each = λ number entry lt there. ⊎_elim
          (λ below. found_on old new number entry.patterns entry.end kept (is.each number entry below there))
          (λ same. subst (λ (n : ℕ). IsGroupFound new n entry.patterns entry.end) (sym same)
          (c.in_ok-note_first.ensures.ok (c.requires.alike c.loop-number.number) entry (subst (λ (n : ℕ). Contains (entries_at groups n) entry) same there)))
          (below_next number c.loop-number.number lt);
      kept = keeps_on c.args.index.now old new is.kept kept;
    }

pub returns-clause-ok : goal.returns-clause-ok
returns-clause-ok g c = λ number entry there.
    let within = within_at c.args.groups.now number entry there in
    c.loop-number.invariant.each number entry (omega (arith, within, c.loop-number-test.false, c.len-number-end.ensures)) there
