-- What one turn of a script hears.
use Rattle.std.proofs.Common.{◌≡◌, ℕ, false, List, [], ◌∷◌, ◌++◌, Option, None, Ok, Err, IsTrue, IfSome, refl, sym, ap, ◌∙◌, arith}
use Rattle.std.specs.Io.KnownBytes.{prepend_known}
use Rattle.pc_base.specs.Lines.{HasNoFeed}
use Rattle.pc_io.specs.declared.line_fault.LineFault.{LineFault}
use Rattle.pc_io.specs.declared.line_fault.LineFault.TheVariants as line
use Rattle.pc_io.specs.Cutter.{Cutter, left_to_give, stream}
use Rattle.pc_io.specs.NextLine.{answer_to, is_outside_fault}
use Rattle.pc_io.specs.Took.{Moment, Took, Stopped}
use Rattle.pc_io.proofs.TookLemmas.{took_nothing, took_on, took_both, stopped_at}
use Rattle.pc_calls.specs.State.{State}
use Rattle.pc_conn.specs.declared.body.Body.{Body}
use Rattle.pc_conn.specs.declared.body.Body.TheVariants.{File, Fault, Cut}
use Rattle.pc_conn.specs.declared.body_fault.BodyFault.{BodyFault}
use Rattle.pc_conn.specs.declared.body_fault.BodyFault.TheVariants as body
use Rattle.pc_conn.specs.Reading.{ReadsBody, GivesBody, IsStopped}
use Rattle.pc_script.specs.declared.item.Awaited.{Awaited}
use Rattle.pc_script.specs.declared.item.Request.TheVariants as says
use Rattle.pc_script.specs.declared.item.Said.{Said}
use Rattle.pc_script.specs.EndBy.{end_by, end_by_body}
use Rattle.pc_script.specs.Request.{requested, said_with}
use Rattle.pc_script.specs.Script.{commanded, answers, said_text, said_after}
use Rattle.pc_script.specs.Turns.{SaysNext, HearsNone, HearsTurn, Hears, turn_after}
use Rattle.pc_script.proofs.Bodies.{body-text, body-after, body-said, part-text, announced-text, announced-after, announced-said, one-text, one-after, one-said, cut-text, cut-said}

none-silent : (state : State) → answers (commanded state) [] ≡ []
unfolding answers
none-silent state = refl

-- the next line can't be cut
none-heard : (state : State) (fault : LineFault) (before after : Moment) → Stopped fault before after → HearsNone state fault before after
none-heard state fault before after stopped = record {
  taken = [];
  bytes = [];
  at = before;
  took = took_nothing before;
  stopped = stopped;
  silent = none-silent state;
}

by_fault : (state : State) (fault : LineFault) (before after : Moment) → HearsNone state fault before after → Hears state (Err (end_by fault)) before after
by_fault state line.ReadFault before after none = none
by_fault state line.LineTooLong before after none = record { fault = line.LineTooLong; inside = refl; none = none }
by_fault state line.TotalTooLong before after none = record { fault = line.TotalTooLong; inside = refl; none = none }
by_fault state line.NoMemory before after none = tt

pub hears_fault : (state : State) (fault : LineFault) (l m : Cutter) (rest mid : Option (List ℕ))
    → l.ended ≡ false
    → (is_outside_fault fault ≡ false → IfSome (stream l rest) (λ b. Err fault ≡ answer_to l.line_limit (left_to_give l) b))
    → stream l rest ≡ prepend_known [] (stream m mid)
    → (fault ≡ line.ReadFault → HasNoFeed m.kept)
    → Hears state (Err (end_by fault)) (record { cutter = l; rest = rest }) (record { cutter = m; rest = mid })
hears_fault state fault l m rest mid going exact read kept =
    by_fault state fault _ _ (none-heard state fault _ _ (stopped_at fault l m rest mid going exact read kept))

-- a line says an item
pub hears_said : (state : State) (said : Said) (line bytes : List ℕ) (before after : Moment) → Took (line ∷ []) bytes before after → requested state line ≡ says.Said said → SaysNext state said before after
hears_said state said line bytes before after took e = record {
  taken = line ∷ [];
  bytes = bytes;
  took = took;
  some = omega arith;
  text = one-text state said line e;
  items = one-said state said line e;
  then = one-after state said line e;
}

-- a line and all lines of the text that it announces
given-body : (state : State) (awaited : Awaited) (body : Body) (line bytes : List ℕ) (before mid after : Moment) → requested state line ≡ says.Publish awaited → Took (line ∷ []) bytes before mid
    → (IsTrue mid.cutter.ended → IsTrue after.cutter.ended) → (IsTrue mid.cutter.ended → after.cutter.given ≡ mid.cutter.given)
    → GivesBody awaited.publish.lines body mid after → SaysNext state (said_with awaited body) before after
given-body state awaited body line bytes before mid after e took stays calm gives = record {
  taken = line ∷ gives.taken;
  bytes = bytes ++ gives.bytes;
  took = took_on (line ∷ []) gives.taken bytes gives.bytes before mid after stays calm took gives.took;
  some = omega arith;
  text = announced-text state awaited line gives.taken e ∙ body-text state awaited [] gives.taken (omega (arith, gives.all)) ∙ ap (λ (b : Body). said_text state (said_with awaited b)) (sym gives.gives);
  items = announced-said state awaited line gives.taken e ∙ body-said state awaited [] gives.taken (omega (arith, gives.all)) ∙ ap (λ (b : Body). said_with awaited b ∷ []) (sym gives.gives);
  then = announced-after state awaited line gives.taken e ∙ body-after state awaited [] gives.taken (omega (arith, gives.all)) ∙ ap (λ (b : Body). commanded (said_after state (said_with awaited b))) (sym gives.gives);
}

pub hears_body : (state : State) (awaited : Awaited) (body : Body) (line bytes : List ℕ) (before mid after : Moment) → requested state line ≡ says.Publish awaited → Took (line ∷ []) bytes before mid
    → (IsTrue mid.cutter.ended → IsTrue after.cutter.ended) → (IsTrue mid.cutter.ended → after.cutter.given ≡ mid.cutter.given)
    → ReadsBody awaited.publish.lines (Ok body) mid after → HearsTurn state (said_with awaited body) (turn_after body) before after
hears_body state awaited (File file) line bytes before mid after e took stays calm reads = given-body state awaited (File file) line bytes before mid after e took stays calm reads
hears_body state awaited (Fault number kind) line bytes before mid after e took stays calm reads = given-body state awaited (Fault number kind) line bytes before mid after e took stays calm reads
hears_body state awaited Cut line bytes before mid after e took stays calm reads = record {
  taken = line ∷ reads.taken;
  bytes = bytes ++ reads.bytes;
  took = took_on (line ∷ []) reads.taken bytes reads.bytes before mid after stays calm took reads.took;
  ended = reads.ended;
  text = cut-text state awaited line reads.taken e reads.fewer;
  items = cut-said state awaited line reads.taken e reads.fewer;
}

-- a line, and not all lines of the text that it announces
stopped-body : (state : State) (awaited : Awaited) (fault : LineFault) (line bytes : List ℕ) (before mid after : Moment) → requested state line ≡ says.Publish awaited → Took (line ∷ []) bytes before mid
    → IsStopped awaited.publish.lines fault mid after → HearsNone state fault before after
stopped-body state awaited fault line bytes before mid after e took stop = record {
  taken = line ∷ stop.taken;
  bytes = bytes ++ stop.bytes;
  at = stop.at;
  took = took_both (line ∷ []) stop.taken bytes stop.bytes before mid stop.at stop.going took stop.took;
  stopped = stop.stopped;
  silent = announced-text state awaited line stop.taken e ∙ part-text state awaited [] stop.taken (omega (arith, stop.fewer));
}

pub hears_body_fault : (state : State) (awaited : Awaited) (fault : BodyFault) (line bytes : List ℕ) (before mid after : Moment) → requested state line ≡ says.Publish awaited → Took (line ∷ []) bytes before mid
    → mid.cutter.fault ≡ None → ReadsBody awaited.publish.lines (Err fault) mid after → Hears state (Err (end_by_body fault)) before after
hears_body_fault state awaited (body.Line fault) line bytes before mid after e took sound reads = by_fault state fault before after (stopped-body state awaited fault line bytes before mid after e took (reads.stopped sound))
hears_body_fault state awaited body.NoMemory line bytes before mid after e took sound reads = tt
