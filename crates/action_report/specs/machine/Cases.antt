-- What the worked cases of report lines speak of.
use Rattle.enf_data.specs.declared.events.Event.{Event}
use Rattle.enf_data.specs.declared.values.Value.{Value}
use Rattle.enf_data.specs.meaning.Valuations.{Valuation}
use Rattle.std.specs.Prelude.{ℕ, List, true, [], ◌∷◌, codes}
use Rattle.enf_formula.specs.meaning.Satisfaction.{True}
use Rattle.signature.specs.declared.entries.NameEntry.{NameEntry}
use Rattle.signature.specs.declared.entries.Sort.{Sort}
use Rattle.signature.specs.declared.entries.Sort.TheVariants.{Text}
use Rattle.formula_reader.specs.meaning.Resolution.{Rule}
use Rattle.obligations.specs.declared.actions.Action.{Action}
use Rattle.obligations.specs.declared.literals.LiteralKind.{LiteralKind}
use Rattle.enf_data.specs.declared.values.Value.TheVariants as values
use Rattle.std.specs.FinMap as map

abbrev report_case_entry : List ℕ → List Sort → NameEntry
report_case_entry name sorts = record { text = name; sorts = sorts; causable = true; suppressible = true }

-- `use(text) +-; delete(text) +-; alarm() +-;`
abbrev pub report_case_entries : List NameEntry
report_case_entries = report_case_entry (codes "use") (Text ∷ []) ∷ report_case_entry (codes "delete")
    (Text ∷ []) ∷ report_case_entry (codes "alarm") [] ∷ []

-- a rule of which only the name and the names of its variables are told
abbrev report_case_rule : List ℕ → List (List ℕ) → Rule
report_case_rule name vars = record { name = name; formula = True 0; vars = vars; place = 0 }

abbrev pub report_case_rules : List Rule
report_case_rules = report_case_rule (codes "consent") (codes "u" ∷ []) ∷ report_case_rule (codes "erase")
    (codes "u" ∷ [])
    ∷ report_case_rule (codes "raise") [] ∷ []

abbrev pub report_case_event : ℕ → List Value → Event
report_case_event name args = record { name = record { 0 = name }; args = args }

-- the text `a`
abbrev pub report_case_a : Value
report_case_a = values.Text (codes "a")

-- the valuation that binds the first variable to the text `a`
abbrev pub report_case_valuation : Valuation
report_case_valuation = map.from_sorted ((record { 0 = 0 }, report_case_a) ∷ [])

abbrev pub report_case_action : LiteralKind → Event → (time position report_case_rule node leaf origin : ℕ)
    → Valuation → Action
report_case_action kind event time position report_case_rule node leaf origin valuation = record {
  kind = kind;
  event = event;
  time = time;
  position = position;
  rule = report_case_rule;
  node = node;
  leaf = leaf;
  origin = origin;
  valuation = valuation;
}
