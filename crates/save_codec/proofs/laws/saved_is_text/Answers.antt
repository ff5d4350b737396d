use Rattle.save_codec.proofs.SavedTexts.{saved_is_text}
use Rattle.save_codec.proofs.laws.saved_is_text.Goals as goal

pub returns : goal.returns
returns c = saved_is_text
