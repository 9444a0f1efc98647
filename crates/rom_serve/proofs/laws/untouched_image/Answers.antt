use Rattle.rom_serve.proofs.Untouched.{untouched}
use Rattle.rom_serve.proofs.laws.untouched_image.Goals as goal

pub returns : goal.returns
returns c = λ ms i m x some never. untouched i m ms some x never
