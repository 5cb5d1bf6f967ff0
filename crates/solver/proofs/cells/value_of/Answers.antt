use Rattle.std.proofs.Common.{rules}
use Rattle.solver.proofs.Reading.{row_fits}
use Rattle.solver.proofs.Shown.{and_fits, and_valued, or_fits, or_valued, variable_fits, variable_valued}
use Rattle.solver.proofs.cells.value_of.Goals as goal

pub finds-requires : goal.finds-requires
finds-requires c = (c.requires.0, and_fits c.args.file.opens c.requires.0 c.requires.1 (search rules) c.list.ensures)

pub returns-in-0 : goal.returns-in-0
returns-in-0 c = and_valued c.args.file.opens c.requires.0 c.requires.1 (search rules) c.list.ensures c.finds.ensures

pub finds-requires-in_default : goal.finds-requires-in_default
finds-requires-in_default c = (c.requires.0, or_fits c.args.file.opens c.requires.0 c.requires.1 (search rules) (search rules) c.list-in_default.ensures)

pub returns-in_default : goal.returns-in_default
returns-in_default c = or_valued c.args.file.opens c.requires.0 c.requires.1 (search rules) (search rules) c.list-in_default.ensures c.finds-in_default.ensures

pub offset_bounds-sets-block : goal.offset_bounds-sets-block
offset_bounds-sets-block c = row_fits (variable_fits c.args.file.opens c.requires.0 c.requires.1 (search rules) c.pair-block.ensures).0

pub bounds-sets-block : goal.bounds-sets-block
bounds-sets-block c = (variable_fits c.args.file.opens c.requires.0 c.requires.1 (search rules) c.pair-block.ensures).0

pub test-requires : goal.test-requires
test-requires c = (variable_fits c.args.file.opens c.requires.0 c.requires.1 (search rules) c.pair-block.ensures).1

pub returns-in-2 : goal.returns-in-2
returns-in-2 c = variable_valued c.args.file.opens c.requires.0 c.requires.1 (search rules) c.pair-block.ensures c.test.ensures
