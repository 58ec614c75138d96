-- A reply of the program, and the output that it is.
use Rattle.std.specs.Prelude.{◌≡◌}
use Rattle.pc_top.specs.declared.response.Response.{Response}
use Rattle.pc_top.specs.Output.{Output}

pub record Is (reply : Response) (output : Output) : Type 0 where
  pub status : reply.status ≡ output.status
  pub text : reply.text ≡ output.text
