-- The first refusal of a text by place, for any grammar. A grammar says which refusal stands at a token, by the tokens
-- before it; which tokens are a sentence; and which refusal stands at the end of a text that is none.
use Rattle.std.specs.Prelude.{List, ◌≡◌, ◌⊎◌, [], ◌∷◌, ◌++◌, Result, Ok, Err}

-- no refusal stands at the token
abbrev pub HasNoRefusalAt : {R T : Type 0} → (R → List T → T → Type 0) → List T → T → Type 0
HasNoRefusalAt {R = R} Stands front token = (refusal : R) → Stands refusal front token → ⊥

-- the first refusal after a front: at the first token where one stands, or at the end of what is no sentence
abbrev pub IsFirstReaderRefusal : {R T : Type 0} → (R → List T → T → Type 0) → (List T → Type 0)
    → (ended refusal : R) → (front rest : List T) → Type 0
IsFirstReaderRefusal Stands IsSentence ended refusal front [] = (refusal ≡ ended) × (IsSentence front → ⊥)
IsFirstReaderRefusal Stands IsSentence ended refusal front (token ∷ rest) = Stands refusal front token
    ⊎ (HasNoRefusalAt Stands front token × IsFirstReaderRefusal Stands IsSentence ended refusal
    (front ++ token ∷ []) rest)

-- the answer to the tokens of a text: a tree of them, or the first refusal
abbrev pub IsReaderAnswer : {A R T : Type 0} → (A → List T → Type 0) → (R → List T → T → Type 0) → (List T → Type 0)
    → (ended : R) → List T → Result A R → Type 0
IsReaderAnswer Is Stands IsSentence ended tokens (Ok tree) = Is tree tokens
IsReaderAnswer Is Stands IsSentence ended tokens (Err refusal) = IsFirstReaderRefusal Stands IsSentence ended refusal
    [] tokens
