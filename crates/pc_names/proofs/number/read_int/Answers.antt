use Rattle.pc_names.proofs.Written.{int_of_is}
use Rattle.pc_names.proofs.number.read_int.Goals as goal

pub returns-clause-value : goal.returns-clause-value
returns-clause-value c = int_of_is c.args.bytes.now c.spelt_int.result c.spelt_int.ensures.fits c.spelt_int.ensures.read c.spelt_int.ensures.spelt
