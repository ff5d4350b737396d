use Rattle.save_codec.proofs.Vocabulary.{take, SaveSetting, AreInstancesOf, IsJudge, IsFoundNode}
use Rattle.save_codec.proofs.judging.Judge.instances.Given as goal

abbrev pub invariant-loop-place : goal.invariant-loop-place
invariant-loop-place l = record {
  so_far : (s : SaveSetting) → IsJudge s l.self → AreInstancesOf s l.clock l.position (take l.place l.dues) l.instances.items;
  named : (s : SaveSetting) → IsJudge s l.self → IsFoundNode s l.named;
}
