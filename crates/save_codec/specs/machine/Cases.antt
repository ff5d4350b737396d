-- What the worked cases of saved texts speak of.
use Rattle.enf_data.specs.declared.values.Value.{Value}
use Rattle.enf_data.specs.declared.values.Value.TheVariants.{Text, Num}
use Rattle.enf_data.specs.meaning.Valuations.{Valuation}
use Rattle.std.specs.Prelude.{[], None, codes, ◌∷◌, Some, pos}
use Rattle.save_codec.specs.declared.snapshots.Snapshot.{Snapshot}
use Rattle.save_codec.specs.meaning.SavedBounds.{SaveSetting}
use Rattle.std.specs.FinMap as map

-- before the first step
abbrev pub save_case_beginning : Snapshot
save_case_beginning = record { clock = 0; last = None; position = 0; kept = []; pending = [] }

-- the text `a`
abbrev pub save_case_a : Value
save_case_a = Text (codes "a")

-- the first variable is bound to it
abbrev pub save_case_valuation : Valuation
save_case_valuation = map.from_sorted ((record { 0 = 0 }, save_case_a) ∷ [])

-- after three steps, at a clock after the last of them: a row with a number and a quote, and an instance
abbrev pub going : Snapshot
going = record {
  clock = 6;
  last = Some 5;
  position = 3;
  kept = record { window = 0; row = Num (pos 7) ∷ Text (34 ∷ []) ∷ []; time = 4 } ∷ [];
  pending = record { rule = 1; node = 2; valuation = save_case_valuation; origin = 0; low = 5; high = 9 } ∷ [];
}

-- no name, no rule and no guard
abbrev pub save_case_setting : SaveSetting
save_case_setting = record { entries = []; plans = []; guards = [] }

-- a last time that is after the clock, one after no step, and a row of a window that is not there
abbrev pub late : Snapshot
late = record { clock = 4; last = Some 5; position = 1; kept = []; pending = [] }

abbrev pub stepless : Snapshot
stepless = record { clock = 6; last = Some 5; position = 0; kept = []; pending = [] }

abbrev pub windowless : Snapshot
windowless = record {
  clock = 6;
  last = Some 5;
  position = 1;
  kept = record { window = 0; row = []; time = 5 } ∷ [];
  pending = [];
}
