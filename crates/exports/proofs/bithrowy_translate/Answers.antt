use Rattle.exports.proofs.Saying.{translate_says}
use Rattle.exports.proofs.bithrowy_translate.Goals as goal

pub returns : goal.returns
returns c = translate_says c.translate.ensures c.from.ensures
