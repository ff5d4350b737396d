-- The sample signature and the sample policy.
use Rattle.enf_data.specs.declared.terms.Term.TheVariants.{Var}
use Rattle.enf_data.specs.declared.terms.VarId.{VarId}
use Rattle.std.specs.Prelude.{ℕ, Bool, List, [], ◌∷◌, true, false, codes, None, Some}
use Rattle.enf_formula.specs.meaning.Satisfaction.{Formula, Atom, Forall, Implies, Eventually, Not, Once, Until}
use Rattle.signature.specs.declared.entries.NameEntry.{NameEntry}
use Rattle.signature.specs.declared.entries.Sort.TheVariants.{Text}
use Rattle.formula_reader.specs.meaning.Resolution.{Rule}

-- an entry with one column, of texts
abbrev pub text_entry : List ℕ → (causable suppressible : Bool) → NameEntry
text_entry name causable suppressible =
    record { text = name; sorts = Text ∷ []; causable = causable; suppressible = suppressible }

abbrev pub bare_entry : List ℕ → (causable suppressible : Bool) → NameEntry
bare_entry name causable suppressible =
    record { text = name; sorts = []; causable = causable; suppressible = suppressible }

abbrev pub sample_entries : List NameEntry
sample_entries =
    text_entry (codes "request") false false ∷ text_entry (codes "consent") false false ∷ text_entry (codes "use")
    false true ∷ text_entry (codes "delete") true false ∷ text_entry (codes "unlock") true false
    ∷ text_entry (codes "lock") false false
    ∷ text_entry (codes "note") true true ∷ bare_entry (codes "alarm") true false
    ∷ bare_entry (codes "ping") true false ∷ bare_entry (codes "pong") true false ∷ []

-- the one variable of each rule of the sample policy
abbrev pub u : VarId
u = record { 0 = 0 }

-- an event with the variable `u`, by its name's number
abbrev pub of_u : (place name : ℕ) → Formula
of_u place name = Atom place (record { 0 = name }) (Var u ∷ [])

-- the rule `forall u. g -> h`
abbrev pub for_all_u : (place : ℕ) → (name : List ℕ) → (quantifier arrow : ℕ) → (g h : Formula) → Rule
for_all_u place name quantifier arrow g h =
    record {
      name = name;
      formula = Forall quantifier (u ∷ []) (Implies arrow g h);
      vars = codes "u" ∷ [];
      place = place;
    }

-- the rules of the sample policy under the sample signature, with their places in the text
abbrev pub sample_rules : List Rule
sample_rules = for_all_u 0 (codes "consent") 14 31 (of_u 24 2) (Once 34 (record { low = 0; high = None }) (of_u 44 1))
    ∷ for_all_u 56 (codes "erase") 68 89 (of_u 78 0) (Eventually 92 (record { low = 0; high = Some 30 }) (of_u 109 3))
    ∷ for_all_u 120 (codes "hold") 131 149 (of_u 141 5)
    (Until 165 (record { low = 0; high = Some 10 }) (Not 153 (of_u 157 2)) (of_u 177 4)) ∷ []
