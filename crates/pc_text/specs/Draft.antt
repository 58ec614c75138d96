-- What contracts see of a draft.
use Rattle.std.specs.Prelude.{Some}
use Rattle.pc_text.specs.declared.draft.Draft.{Draft}
use Rattle.pc_text.specs.Given.{Given}

abbrev pub given_of : Draft → Given
given_of draft =
    record { last = draft.last; costs = draft.costs; closed = draft.variables.closed; open_variable = draft.variables.open_variable; rules = draft.rules; printed = Some draft.printed }
