use Rattle.sleepers.proofs.Vocabulary.{rules, ◌≡◌, ℕ, true, false, subst, AreAlike, StandsAsleep, StandsAwake, entries_at}
use Rattle.sleepers.proofs.NotedGroupLemmas.{all_awake, found_by_index, retained}
use Rattle.sleepers.proofs.awake_groups.awake_of_found.Goals as goal

pub returns : goal.returns
returns g c =
    let events = c.args.events.now in
    let time = c.args.time in
    let groups = c.args.groups.now in
    let found = c.in_ok-numbers.numbers.items in
    let numbers = c.retain.new.self.items in
    all_awake events time groups c.args.index.now found numbers c.requires.noted
    (found_by_index events time groups c.args.index.now found c.requires.noted c.requires.begun c.in_ok-numbers.ensures.all)
    (retained events time groups _ _ (λ n b q k. (
      (
        subst (λ (m : ℕ). b ≡ true → AreAlike (entries_at groups m) → StandsAwake events time groups m) k.shows (search rules),
        subst (λ (m : ℕ). b ≡ false → AreAlike (entries_at groups m) → StandsAsleep events time groups m) k.shows (search rules),
      ),
      search rules,
    )) found numbers c.in_ok-numbers.ensures.once c.retain.ensures.filtered)
