-- Entries for worked cases.
use Rattle.std.specs.Prelude.{[], ◌∷◌, None, ℕ, Some, false, List}
use Rattle.sleepers.specs.declared.entries.Entry.{Entry}
use Rattle.sleepers.specs.declared.patterns.Pattern.{Pattern}
use Rattle.sleepers.specs.machine.EntrySteps.{EntryOutcome}
use Rattle.sleepers.specs.machine.Places.{Place, beginning_at}

-- any event of the name with one argument
abbrev pub any_pattern : Pattern
any_pattern = record { name = record { 0 = 3 }; args = None ∷ [] }

-- an entry that sleeps until then
abbrev pub sleeper : Place → (end : ℕ) → Entry ℕ
sleeper place end = record { place = place; patterns = Some (any_pattern ∷ []); end = end; item = 0 }

-- one that each step wakes
abbrev pub wakeful : Place → (end : ℕ) → Entry ℕ
wakeful place end = record { place = place; patterns = None; end = end; item = 0 }

-- the entry at beginning 1 ends, and one is begun for it at beginning 10
abbrev pub ended : EntryOutcome ℕ
ended = record {
  entry = sleeper (beginning_at 1 0 ∷ []) 5;
  stays = false;
  begun = sleeper (beginning_at 1 0 ∷ beginning_at 10 0 ∷ []) 9 ∷ [];
}

abbrev pub begun_anew : List (Entry ℕ)
begun_anew = sleeper (beginning_at 2 0 ∷ []) 9 ∷ []
