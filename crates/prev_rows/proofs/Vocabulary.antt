-- The words in which the proofs of this crate speak: those of std, of the crates below and of its own specs.
pub use Rattle.std.proofs.Common.{All, Contains, IsTrue, List, None, Option, Some, [], ap, arith, inl, inr, length, map, refl, subst, sym, ℕ, ⊎_elim, ◌++◌, ◌-◌, ◌↔◌, ◌∙◌, ◌∷◌, ◌≡◌, ◌≤◌}
pub use Rattle.std.proofs.Common.{◌⊎◌}
pub use Rattle.std.proofs.lemmas.List.{append-nil}
pub use Rattle.std.proofs.lemmas.List.Elements.{All-contains}
pub use Rattle.std.proofs.lemmas.Result.{IfOk-weaker, on_ok_weaker}
pub use Rattle.enf_data.proofs.ListFacts.{all_from}
pub use Rattle.enf_data.proofs.Lists.{Contains-from_map, Contains-map, here, later, none_in_nil}
pub use Rattle.enf_data.specs.declared.intervals.Interval.{Interval}
pub use Rattle.enf_data.specs.declared.terms.VarId.{VarId}
pub use Rattle.enf_data.specs.declared.values.Value.{Value}
pub use Rattle.enf_data.specs.meaning.Membership.{HasNoRepeats, IsIn, IsUpTo}
pub use Rattle.enf_data.specs.meaning.Valuations.{Valuation}
pub use Rattle.valuations.specs.machine.Tables.{AgreesWhereBound, AgreesWithRow, HasValuation, Relation}
pub use Rattle.windows.proofs.GivenLaws.{given_answers, given_rows, rows_given}
pub use Rattle.windows.specs.declared.kept_pairs.KeptPair.{KeptPair}
pub use Rattle.windows.specs.declared.steps.LastStep.{LastStep}
pub use Rattle.windows.specs.machine.AnswerTables.{survives_always}
pub use Rattle.windows.specs.machine.Slots.{GivesLast, IsSlot, IsUpToTime, LastHasColumns, Slot, with_rows}
pub use Rattle.windows.specs.machine.StoredPairs.{AreKeepable, AreOfLast, ArePairsOf, AreRising, Stores, last_step_time, pairs_of_last}
pub use Rattle.windows.specs.machine.Windows.{AnswersBy, HasRow, IsCommittedBy, SurvivesFor, Window, WindowRemembers}
pub use Rattle.windows.specs.meaning.KeptPairs.{ChosenBy, IsPairBefore, pair}
pub use Rattle.prev_rows.specs.machine.GrownSlots.{IsEndless, IsGrownBy, IsTakenOver, KeepsColumns, WasThere, grown_rows, grown_slot}
pub use Rattle.prev_rows.specs.machine.LastRows.{kept_slot}
