-- The texts of the sample signature and policy.
use Rattle.std.specs.Prelude.{ℕ, List, [], ◌∷◌, ◌++◌, codes}

-- a line and its line feed
abbrev pub text_line : List ℕ → List ℕ
text_line bytes = bytes ++ 10 ∷ []

abbrev pub signature_text : List ℕ
signature_text =
    text_line (codes "request(text); consent(text); use(text) -; delete(text) +; unlock(text) +;")
    ++ text_line (codes "lock(text); note(text) +-; alarm() +; ping() +; pong() +;")

abbrev pub policy_text : List ℕ
policy_text =
    text_line (codes "rule consent: forall u. use(u) -> once[0,*] consent(u);")
    ++ text_line (codes "rule erase: forall u. request(u) -> eventually[0,30] delete(u);")
    ++ text_line (codes "rule hold: forall u. lock(u) -> (not use(u)) until[0,10] unlock(u);")
