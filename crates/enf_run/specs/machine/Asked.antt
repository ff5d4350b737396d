-- What the words ask for, where the files are as they were read, and where they tell their bytes.
use Rattle.std.specs.Prelude.{ℕ, List}
use Rattle.signature.specs.declared.entries.NameEntry.{NameEntry}
use Rattle.formula_reader.specs.meaning.Resolution.{Rule}
use Rattle.enf_run.specs.meaning.Calls.{Call}
use Rattle.enf_run.specs.meaning.Sources.{AreBytesUnder, AsksPolicy, TellBytes}

-- the bytes of the sources are those that the files have, where they tell them
abbrev pub AsksUnderPolicy : {Gate : Type 0} → (List (List ℕ) → List ℕ → List ℕ → Type 0) → Call Gate
    → List NameEntry → List Rule → Type 0
AsksUnderPolicy IsForm call entries policy = AsksPolicy AreBytesUnder IsForm call entries policy

-- the files tell the bytes of the sources
abbrev pub AsksToldPolicy : {Gate : Type 0} → (List (List ℕ) → List ℕ → List ℕ → Type 0) → Call Gate
    → List NameEntry → List Rule → Type 0
AsksToldPolicy IsForm call entries policy = AsksPolicy TellBytes IsForm call entries policy
