-- The canonical text of a rule.
use Rattle.enf_data.specs.declared.events.NameId.{NameId}
use Rattle.enf_data.specs.declared.intervals.Interval.{Interval}
use Rattle.enf_data.specs.declared.terms.Term.{Term}
use Rattle.enf_data.specs.declared.terms.Term.TheVariants.{Var, Const}
use Rattle.enf_data.specs.declared.terms.VarId.{VarId}
use Rattle.std.specs.List.{flat_map}
use Rattle.std.specs.Option.{option_map, unwrap_or}
use Rattle.std.specs.Prelude.{ℕ, List, [], slice_get, ◌∷◌, ◌++◌, Option, None, Some, codes, decimal, Bool, true, false}
use Rattle.enf_value.specs.meaning.Tokens.{spelled}
use Rattle.enf_formula.specs.meaning.Satisfaction.{Formula, True, False, Atom, Equal, Less, AtMost, Not, And, Or}
use Rattle.enf_formula.specs.meaning.Satisfaction.{Implies, Exists, Forall, Prev, Next, Once, Historically, Since}
use Rattle.enf_formula.specs.meaning.Satisfaction.{Eventually, Always, Until}
use Rattle.signature.specs.declared.entries.NameEntry.{NameEntry}
use Rattle.formula_reader.specs.meaning.Resolution.{variable_text, Rule}

-- the text of a name; nothing, where there is no such name
abbrev pub name_text : List NameEntry → NameId → List ℕ
name_text entries name = unwrap_or (option_map (λ entry. entry.text) (slice_get entries name.0)) []

-- the text of a term: the name of a variable, or the text of a constant
abbrev pub term_text : (vars : List (List ℕ)) → Term → List ℕ
term_text vars (Var x) = variable_text vars x
term_text vars (Const value) = spelled value

-- texts with a separator between them
abbrev pub separated_text : {A : Type 0} → (A → List ℕ) → (separator : List ℕ) → List A → List ℕ
separated_text text separator [] = []
separated_text text separator (first ∷ rest) = text first ++ flat_map (λ item. separator ++ text item) rest

-- the text of the end of an interval: `*`, where it has none
abbrev pub end_text : Option ℕ → List ℕ
end_text None = codes "*"
end_text (Some high) = decimal high

-- the text of an interval: `[a,b]`, or `[a,*]` where it has no end
abbrev pub interval_text : Interval → List ℕ
interval_text interval = codes "[" ++ (decimal interval.low ++ (codes "," ++ (end_text interval.high ++ codes "]")))

-- whether a formula may stand as an operand without parentheses: it is an atom, `true` or `false`
abbrev pub formula_stands_alone : Formula → Bool
formula_stands_alone (True place) = true
formula_stands_alone (False place) = true
formula_stands_alone (Atom place name terms) = true
formula_stands_alone f = false

-- a text, in parentheses where it does not stand alone
abbrev pub enclosed_text : (alone : Bool) → List ℕ → List ℕ
enclosed_text true text = text
enclosed_text false text = codes "(" ++ (text ++ codes ")")

-- the text of an event name with its terms
abbrev pub atom_text : List NameEntry → (vars : List (List ℕ)) → NameId → List Term → List ℕ
atom_text entries vars name terms =
    name_text entries name ++ (codes "(" ++ (separated_text (term_text vars) (codes ",") terms ++ codes ")"))

-- the text of a comparison
abbrev pub comparison_text : (vars : List (List ℕ)) → Term → (sign : List ℕ) → Term → List ℕ
comparison_text vars s sign t = term_text vars s ++ (sign ++ term_text vars t)

-- the text of an operator before its operand
abbrev pub prefix_text : (operator operand : List ℕ) → List ℕ
prefix_text operator operand = operator ++ (codes " " ++ operand)

-- the text of an operator between its operands
abbrev pub infix_text : (left operator right : List ℕ) → List ℕ
infix_text left operator right = left ++ (codes " " ++ (operator ++ (codes " " ++ right)))

-- the text of a quantifier with its variables
abbrev pub quantified_text : (vars : List (List ℕ)) → (word : List ℕ) → List VarId → (operand : List ℕ) → List ℕ
quantified_text vars word xs operand = word ++
    (separated_text (variable_text vars) (codes ", ") xs ++ (codes ". " ++ operand))

-- the text of a formula
abbrev pub formula_text : List NameEntry → (vars : List (List ℕ)) → Formula → List ℕ
formula_text entries vars (True place) = codes "true"
formula_text entries vars (False place) = codes "false"
formula_text entries vars (Atom place name terms) = atom_text entries vars name terms
formula_text entries vars (Equal place s t) = comparison_text vars s (codes " = ") t
formula_text entries vars (Less place s t) = comparison_text vars s (codes " < ") t
formula_text entries vars (AtMost place s t) = comparison_text vars s (codes " <= ") t
formula_text entries vars (Not place f) = prefix_text (codes "not")
    (enclosed_text (formula_stands_alone f) (formula_text entries vars f))
formula_text entries vars (And place f g) =
    infix_text (enclosed_text (formula_stands_alone f) (formula_text entries vars f)) (codes "and")
    (enclosed_text (formula_stands_alone g) (formula_text entries vars g))
formula_text entries vars (Or place f g) =
    infix_text (enclosed_text (formula_stands_alone f) (formula_text entries vars f)) (codes "or")
    (enclosed_text (formula_stands_alone g) (formula_text entries vars g))
formula_text entries vars (Implies place f g) =
    infix_text (enclosed_text (formula_stands_alone f) (formula_text entries vars f)) (codes "->")
    (enclosed_text (formula_stands_alone g) (formula_text entries vars g))
formula_text entries vars (Exists place xs f) = quantified_text vars (codes "exists ") xs
    (enclosed_text (formula_stands_alone f) (formula_text entries vars f))
formula_text entries vars (Forall place xs f) = quantified_text vars (codes "forall ") xs
    (enclosed_text (formula_stands_alone f) (formula_text entries vars f))
formula_text entries vars (Prev place interval f) = prefix_text (codes "prev" ++ interval_text interval)
    (enclosed_text (formula_stands_alone f) (formula_text entries vars f))
formula_text entries vars (Next place interval f) = prefix_text (codes "next" ++ interval_text interval)
    (enclosed_text (formula_stands_alone f) (formula_text entries vars f))
formula_text entries vars (Once place interval f) = prefix_text (codes "once" ++ interval_text interval)
    (enclosed_text (formula_stands_alone f) (formula_text entries vars f))
formula_text entries vars (Historically place interval f) = prefix_text (codes "historically" ++ interval_text interval)
    (enclosed_text (formula_stands_alone f) (formula_text entries vars f))
formula_text entries vars (Since place interval f g) =
    infix_text (enclosed_text (formula_stands_alone f) (formula_text entries vars f))
    (codes "since" ++ interval_text interval) (enclosed_text (formula_stands_alone g) (formula_text entries vars g))
formula_text entries vars (Eventually place interval f) = prefix_text (codes "eventually" ++ interval_text interval)
    (enclosed_text (formula_stands_alone f) (formula_text entries vars f))
formula_text entries vars (Always place interval f) = prefix_text (codes "always" ++ interval_text interval)
    (enclosed_text (formula_stands_alone f) (formula_text entries vars f))
formula_text entries vars (Until place interval f g) =
    infix_text (enclosed_text (formula_stands_alone f) (formula_text entries vars f))
    (codes "until" ++ interval_text interval) (enclosed_text (formula_stands_alone g) (formula_text entries vars g))

-- the text of a rule: `rule NAME: F;`
abbrev pub rule_text : List NameEntry → Rule → List ℕ
rule_text entries rule = codes "rule " ++
    (rule.name ++ (codes ": " ++ (formula_text entries rule.vars rule.formula ++ codes ";")))
