use Rattle.action_report.proofs.Vocabulary.{ap, ◌∙◌, length, take_while, is_word_byte, behind_front}
use Rattle.action_report.proofs.ByteFronts.{word_front}
use Rattle.action_report.proofs.cursor.Cursor.word.Goals as goal

pub returns : goal.returns
returns c = λ word rest is ends e.
    let taken = c.front-word.ensures ∙ ap (take_while is_word_byte) e ∙ word_front word rest is ends in
    (taken, behind_front word rest _ _ e (ap length taken))
