-- Two lists of maximal spans that differ hold different seconds.
use Rattle.landing_windows.specs.Runs.{one_list}
use Rattle.landing_windows.proofs.laws.open_seconds_have_one_list.Goals as goal

pub returns : goal.returns
returns c = λ xs ys a b same. one_list 0 xs ys a b (λ t h. same t)
