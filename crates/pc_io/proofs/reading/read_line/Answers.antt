use Rattle.std.proofs.Common.{ℕ, List, ap, refl, sym, ◌∙◌, arith}
use Rattle.std.specs.List.{list_any}
use Rattle.pc_io.specs.Held.{Held}
use Rattle.pc_base.specs.Lines.{is_feed}
use Rattle.std.proofs.lemmas.Bool.{false≢true}
use Rattle.pc_base.proofs.LineCuts.{length-first_line-le}
use Rattle.pc_io.proofs.ReadingKept.{feed_ahead, fits_unless_past, held-moved, limit_reached, moved_is, nearer, no_feed-moved, none_ahead, not_unread, stream_on}
use Rattle.pc_io.proofs.reading.read_line.Goals as goal

pub returns-then-is_past-clause-reached : goal.returns-then-is_past-clause-reached
returns-then-is_past-clause-reached g c =
    limit_reached c.loop-most.pending c.args.most _ c.loop-most.invariant.no_feed c.line_bytes_ahead-ahead.ensures (c.if-is_past.ensures.0 refl)

pub keep-requires : goal.keep-requires
keep-requires g c = omega (arith, c.line_bytes_ahead-ahead.ensures, length-first_line-le c.loop-most.pending.ahead)

pub returns-then-not-is_ahead_empty-clause-reached :
    goal.returns-then-not-is_ahead_empty-clause-reached
returns-then-not-is_ahead_empty-clause-reached g c =
    let is = moved_is c.loop-most.pending c.keep.new.self _ c.line_bytes_ahead-ahead.ensures c.in_ok-keep.ensures.ok in (
      fits_unless_past c.loop-most.pending c.keep.new.self c.args.most _ c.line_bytes_ahead-ahead.ensures is (λ h. false≢true (c.if-is_past.ensures.1 h)),
      feed_ahead c.loop-most.pending c.keep.new.self is (λ h. false≢true (c.if-not-is_ahead_empty.ensures.1 h)),
    )

pub returns-then-not-is_ahead_empty-clause-no_feed :
    goal.returns-then-not-is_ahead_empty-clause-no_feed
returns-then-not-is_ahead_empty-clause-no_feed g c =
    no_feed-moved c.loop-most.pending _ c.loop-most.invariant.no_feed (moved_is _ _ _ c.line_bytes_ahead-ahead.ensures c.in_ok-keep.ensures.ok)

pub loop-most-smaller : goal.loop-most-smaller
loop-most-smaller g c =
    let is = moved_is c.loop-most.pending c.keep.new.self _ c.line_bytes_ahead-ahead.ensures c.in_ok-keep.ensures.ok in
    let fits = fits_unless_past c.loop-most.pending c.keep.new.self c.args.most _ c.line_bytes_ahead-ahead.ensures is (λ h. false≢true (c.if-is_past.ensures.1 h)) in
    nearer c.loop-most.pending c.keep.new.self c.fill.new.self c.args.most is (c.if-not-is_ahead_empty.ensures.0 refl) (sym c.if-has_ended.ensures) fits c.in-Ok.ensures.part c.in-Ok.ensures.ended

pub loop-most-preserved : goal.loop-most-preserved
loop-most-preserved g c =
    let kept = c.loop-most.invariant in
    let call = c.in-Ok.ensures in
    let is = moved_is c.loop-most.pending c.keep.new.self _ c.line_bytes_ahead-ahead.ensures c.in_ok-keep.ensures.ok in
    let none = c.if-not-is_ahead_empty.ensures.0 refl in
    let same = held-moved c.loop-most.pending c.keep.new.self is in
    let no_feed = no_feed-moved c.loop-most.pending c.keep.new.self kept.no_feed is in
    record {
      stream = stream_on _ _ _ c.args.pending.now c.loop-most.pending c.keep.new.self c.fill.new.self kept.stream same none call.part call.bytes;
      no_feed = ap (λ (x : List ℕ). list_any is_feed x) call.part ∙ no_feed;
      ended = none_ahead c.fill.new.self call.ended;
      at_end = call.end;
      unread = λ premise. absurd (not_unread c.args.pending.now c.loop-most.pending c.keep.new.self _ kept.unread no_feed none same (ap (λ (x : Held). x.ended) is) (sym c.if-has_ended.ensures) premise);
      faultless = call.faultless ∙ kept.faultless;
      same_aside = call.aside ∙ kept.same_aside;
    }

pub returns-in_default-clause-no_feed : goal.returns-in_default-clause-no_feed
returns-in_default-clause-no_feed g c =
    let is = moved_is c.loop-most.pending c.keep.new.self _ c.line_bytes_ahead-ahead.ensures c.in_ok-keep.ensures.ok in
    ap (λ (x : List ℕ). list_any is_feed x) c.fill.ensures.part ∙ no_feed-moved c.loop-most.pending c.keep.new.self c.loop-most.invariant.no_feed is

pub returns-in_default-clause-unread : goal.returns-in_default-clause-unread
returns-in_default-clause-unread g c =
    let kept = c.loop-most.invariant in
    let is = moved_is c.loop-most.pending c.keep.new.self _ c.line_bytes_ahead-ahead.ensures c.in_ok-keep.ensures.ok in
    let none = c.if-not-is_ahead_empty.ensures.0 refl in
    let same = held-moved c.loop-most.pending c.keep.new.self is in
    let no_feed = no_feed-moved c.loop-most.pending c.keep.new.self kept.no_feed is in
    λ premise. absurd (not_unread c.args.pending.now c.loop-most.pending c.keep.new.self _ kept.unread no_feed none same (ap (λ (x : Held). x.ended) is) (sym c.if-has_ended.ensures) premise)
