use Rattle.std.proofs.Common.{◌≡◌, ◌+◌, ◌<◌, ◌^◌, map, All, sym, subst, ap, ◌∙◌}
use Rattle.std.specs.Prelude.{is_some}
use Rattle.pc_calls.specs.State.{is_live}
use Rattle.pc_book.specs.declared.shelf.Shelf.{Shelf}
use Rattle.pc_book.specs.Shelves.{one_at, repinned}
use Rattle.pc_book.proofs.MoveLemmas.{fewer-pins, live-told, moved-shelves, rebase-brings}
use Rattle.pc_book.proofs.rebasing.move_session.Goals.{in-Some, in_default}
use Rattle.pc_book.proofs.rebasing.move_session.Goals as goal

pub pin-requires : goal.pin-requires
pin-requires c = subst (All (λ (shelf : Shelf). shelf.pins < 2 ^ 63)) (sym c.unpin.ensures) (fewer-pins (one_at c.in-Some.left) c.args.shelves.now c.requires.pins)

moved : (c : goal.Joined-left) → c.match-left.shelves ≡ moved-shelves c.args.version c.in_ok-reply.left c.args.shelves.now
moved c =
    elim c.match-left.branch [
      | in-Some w ↦ w.shelves-is ∙ w.pin.ensures ∙ ap (map (repinned (λ number pins. pins + one_at c.args.version number))) w.unpin.ensures ∙ ap (λ left. moved-shelves c.args.version left c.args.shelves.now) (sym w.in-Some.is)
      | in_default w ↦ w.shelves-is ∙ ap (λ left. moved-shelves c.args.version left c.args.shelves.now) (sym w.in_default.is)
    ]

pub returns-clause-brings : goal.returns-clause-brings
returns-clause-brings c dropping state entered present now seen made =
    let live : c.is_some-live.result ≡ is_live state c.args.version = c.is_some-live.ensures ∙ ap is_some c.place.ensures ∙ live-told c.args.shelves.now state c.args.version seen.kept.shelves_are in
    rebase-brings state c.args.own.now c.args.shelves.now entered present now c.args.session c.args.version dropping seen c.args.made made c.is_some-live.result live c.in_ok-reply.reply c.in_ok-reply.ensures.reply
    c.rebase.new.self c.in_ok-reply.ensures.part c.in_ok-reply.left c.in_ok-reply.ensures.left c.match-left.shelves (moved c)
