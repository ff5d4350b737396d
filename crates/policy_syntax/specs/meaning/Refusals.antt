-- Why a text is no policy: the first refusal by place, said by what could still follow.
use Rattle.enf_data.specs.declared.limits.TheConstants.{MOST_NAME_BYTES}
use Rattle.std.specs.Prelude.{◌≡◌, List, [], ◌+◌, ◌++◌, map, reverse, ℕ, ◌∷◌, Bool, true, false, if◌then◌else◌, nat_lt}
use Rattle.std.specs.Prelude.{Contains, IsTrue, ◌<◌, ◌≤◌, length, Result, Ok, Err}
use Rattle.policy_syntax.specs.declared.limits.TheConstants.{MOST_INTERVAL_END, MOST_LEVEL, MOST_NODES, MOST_RULES}
use Rattle.policy_syntax.specs.declared.limits.TheConstants.{MOST_VARIABLES}
use Rattle.policy_syntax.specs.declared.refusals.SyntaxRefusal.{SyntaxRefusal}
use Rattle.policy_syntax.specs.declared.refusals.SyntaxRefusal.TheVariants.{Syntax, Limit, NoMemory}
use Rattle.policy_syntax.specs.meaning.Grammar.{PolicyFits, policy_fold, spell, LexemeStep, IsPolicyText}
use Rattle.policy_syntax.specs.meaning.Lexemes.{PlacedLexeme, PolicyLexeme, NameLexeme, Symbol, Infix, Prefix}
use Rattle.policy_syntax.specs.meaning.Lexemes.{Quantifier, Sign, Truth, DigitsLexeme, lexemes}
use Rattle.policy_syntax.specs.meaning.Phrases.{RulePhrase}
use Rattle.policy_syntax.specs.meaning.Trees.{PolicyRule}
use Rattle.policy_syntax.specs.declared.lexemes.Symbol.TheVariants as symbols
use Rattle.enf_value.specs.meaning.FirstRefusal as first

-- the lexemes are those of a policy, whether or not it keeps the limits and repeats names
abbrev pub IsPolicySentence : List PlacedLexeme → Type 0
IsPolicySentence front = (rules : List RulePhrase) × PolicyFits rules × (policy_fold spell rules [] ≡ front)

-- some policy begins with the lexemes
abbrev pub CanBeginPolicy : List PlacedLexeme → Type 0
CanBeginPolicy front = (rules : List RulePhrase) × (rest : List PlacedLexeme) × PolicyFits rules
    × (policy_fold spell rules [] ≡ front ++ rest)

-- ---- what stands after a lexeme: the kinds of those before it, from the last to the first
abbrev pub kinds_behind : List PlacedLexeme → List PolicyLexeme
kinds_behind front = map (λ placed. placed.1) (reverse front)

-- the names of the rules among the lexemes before a place
abbrev pub rule_names : List PolicyLexeme → List (List ℕ)
rule_names [] = []
rule_names (NameLexeme name ∷ Symbol symbols.Rule ∷ before) = name ∷ rule_names before
rule_names (lexeme ∷ before) = rule_names before

abbrev pub is_rule : PolicyLexeme → Bool
is_rule (Symbol symbols.Rule) = true
is_rule _ = false

-- how often the word `rule` stands among the lexemes before a place
abbrev pub rules_behind : List PolicyLexeme → ℕ
rules_behind [] = 0
rules_behind (lexeme ∷ before) = (if is_rule lexeme then 1 else 0) + rules_behind before

-- whether a lexeme is the principal one of a node, other than the name of an event
abbrev pub is_operator : PolicyLexeme → Bool
is_operator (Symbol symbols.Not) = true
is_operator (Symbol symbols.And) = true
is_operator (Symbol symbols.Or) = true
is_operator (Symbol symbols.Arrow) = true
is_operator (Truth _) = true
is_operator (Prefix _) = true
is_operator (Infix _) = true
is_operator (Quantifier _) = true
is_operator (Sign _) = true
is_operator _ = false

-- whether the last lexeme before a place is a name
abbrev pub ends_in_name : List PolicyLexeme → Bool
ends_in_name (NameLexeme _ ∷ before) = true
ends_in_name _ = false

-- how many nodes the rule has up to a place. A name before a parenthesis is an event's
abbrev pub nodes_behind : List PolicyLexeme → ℕ
nodes_behind [] = 0
nodes_behind (Symbol symbols.Rule ∷ before) = 0
nodes_behind (Symbol symbols.OpenParen ∷ before) = (if ends_in_name before then 1 else 0) + nodes_behind before
nodes_behind (lexeme ∷ before) = (if is_operator lexeme then 1 else 0) + nodes_behind before

-- whether an end of an interval is wanted
abbrev pub wants_end : List PolicyLexeme → Bool
wants_end (Symbol symbols.OpenBracket ∷ before) = true
wants_end (Symbol symbols.Comma ∷ DigitsLexeme _ ∷ Symbol symbols.OpenBracket ∷ before) = true
wants_end _ = false

-- whether a lexeme is the second end of an interval, and below the first
abbrev pub is_below_first : List PolicyLexeme → PolicyLexeme → Bool
is_below_first (Symbol symbols.Comma ∷ DigitsLexeme low ∷ Symbol symbols.OpenBracket ∷ before)
    (DigitsLexeme high) = nat_lt high low
is_below_first _ _ = false

-- the lexeme is the name of a rule that stands there already
abbrev pub IsUsed : List PolicyLexeme → PolicyLexeme → Type 0
IsUsed (Symbol symbols.Rule ∷ before) (NameLexeme name) = Contains (rule_names before) name
IsUsed _ _ = ⊥

-- ---- levels and scopes

-- a lexeme with its level and how many variables are in scope at it
pub record Deep : Type 0 where
  pub placed : PlacedLexeme
  pub level : ℕ
  pub scope : ℕ

abbrev pub deepen : LexemeStep (List Deep)
deepen level scope place lexeme rest = record { placed = (place, lexeme); level = level; scope = scope } ∷ rest

-- after these lexemes this one stands at the level and in the scope, in some policy that begins with them
pub record IsDeep (front : List PlacedLexeme) (token : PlacedLexeme) (level scope : ℕ) : Type 0 where
  pub rules : List RulePhrase
  pub fits : PolicyFits rules
  pub before : List Deep
  pub after : List Deep
  pub is : policy_fold deepen rules [] ≡ before ++ record { placed = token; level = level; scope = scope } ∷ after
  pub front_is : map (λ (deep : Deep). deep.placed) before ≡ front

-- ---- refusals

-- the lexeme cannot continue a policy; or it is a rule's name that was used before, or the second end of an interval
-- and below the first
pub data IsSyntaxFault (front : List PlacedLexeme) (token : PlacedLexeme) : Type 0 where
  Stuck : (CanBeginPolicy (front ++ token ∷ []) → ⊥) → IsSyntaxFault front token
  Used : IsUsed (kinds_behind front) token.1 → IsSyntaxFault front token
  Backwards : IsTrue (is_below_first (kinds_behind front) token.1) → IsSyntaxFault front token

-- the lexeme is the parenthesis after an event's name, at which the level and the scope are those of the name
abbrev pub IsBehindName : List PlacedLexeme → PolicyLexeme → Type 0
IsBehindName front lexeme = (lexeme ≡ Symbol symbols.OpenParen) × IsTrue (ends_in_name (kinds_behind front))

-- the lexeme passes a limit, at this place: it is the 65th `rule`, a long name, a great end of an interval, or the
-- principal lexeme of a rule's 401st node; or it makes the name before it the event that is this node; or it stands at
-- a level above 40, or makes 17 variables in scope
pub data PassesLimit (front : List PlacedLexeme) (place : ℕ) (lexeme : PolicyLexeme) : ℕ → Type 0 where
  TooManyRules : IsTrue (is_rule lexeme) → MOST_RULES ≤ rules_behind (kinds_behind front)
      → PassesLimit front place lexeme place
  LongName : (name : List ℕ) → lexeme ≡ NameLexeme name → MOST_NAME_BYTES < length name
      → PassesLimit front place lexeme place
  GreatEnd : (end : ℕ) → lexeme ≡ DigitsLexeme end → IsTrue (wants_end (kinds_behind front)) → MOST_INTERVAL_END < end
      → PassesLimit front place lexeme place
  TooManyNodes : IsTrue (is_operator lexeme) → MOST_NODES ≤ nodes_behind (kinds_behind front)
      → PassesLimit front place lexeme place
  EventNode : (before : List PlacedLexeme) (at : ℕ) (name : List ℕ) → lexeme ≡ Symbol symbols.OpenParen
      → front ≡ before ++ (at, NameLexeme name) ∷ [] → MOST_NODES ≤ nodes_behind (kinds_behind front)
      → PassesLimit front place lexeme at
  DeepLevel : (level scope : ℕ) → IsDeep front (place, lexeme) level scope → (IsBehindName front lexeme → ⊥)
      → MOST_LEVEL < level → PassesLimit front place lexeme place
  WideScope : (level scope : ℕ) → IsDeep front (place, lexeme) level scope → (IsBehindName front lexeme → ⊥)
      → MOST_VARIABLES < scope → PassesLimit front place lexeme place

-- the refusal stands at the lexeme after the front; Syntax comes first
abbrev pub RefusesLexeme : SyntaxRefusal → List PlacedLexeme → PlacedLexeme → Type 0
RefusesLexeme (Syntax place) front token = (place ≡ token.0) × IsSyntaxFault front token
RefusesLexeme (Limit place) front token = (IsSyntaxFault front token → ⊥) × PassesLimit front token.0 token.1 place
RefusesLexeme NoMemory front token = ⊥

-- the answer to a text: its rules, or the first refusal; at the end of a text that is no policy yet Syntax stands
abbrev pub IsSyntaxAnswer : List ℕ → Result (List PolicyRule) SyntaxRefusal → Type 0
IsSyntaxAnswer bytes (Ok rules) = IsPolicyText bytes rules
IsSyntaxAnswer bytes (Err refusal) = first.IsFirstReaderRefusal RefusesLexeme IsPolicySentence (Syntax (length bytes))
    refusal [] (lexemes bytes)
