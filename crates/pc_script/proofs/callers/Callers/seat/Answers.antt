use Rattle.std.proofs.Common.{◌≡◌, ◌++◌, ◌∷◌, [], List, length, None, Some, sym, ap, subst, ◌∙◌}
use Rattle.std.specs.List.{position}
use Rattle.std.proofs.lemmas.List.{append-nil}
use Rattle.pc_calls.specs.declared.entry.Entry.{Entry}
use Rattle.pc_calls.specs.declared.call.Call.TheVariants.{Enter}
use Rattle.pc_calls.specs.History.{entry_of}
use Rattle.pc_book.specs.Book.{history_of, next_caller, state_of_book}
use Rattle.pc_book.specs.Own.{OwnPart}
use Rattle.pc_book.proofs.BookLemmas.{history-more}
use Rattle.pc_script.specs.Present.{ArePresent, IsSeated, has_number}
use Rattle.pc_script.proofs.CallLemmas.{entered-present, last_seated}
use Rattle.pc_script.proofs.SeatLemmas.{found-entering, found-seated, none-entering, none-next}
use Rattle.pc_script.proofs.callers.Callers.seat.Goals as goal

found : (c : goal.In-Some) → position (has_number c.args.caller) c.args.self.now.present.items ≡ Some c.in-Some.place
found c = ap (position (has_number c.args.caller)) (sym c.as_slice.ensures.value) ∙ sym c.place.ensures ∙ c.in-Some.is

pub returns-in-Some-clause-seated : goal.returns-in-Some-clause-seated
returns-in-Some-clause-seated c = found-seated c.args.self.now.book c.args.self.now.present.items c.requires.present c.args.caller c.in-Some.place (found c)

pub returns-in-Some-clause-entered : goal.returns-in-Some-clause-entered
returns-in-Some-clause-entered c =
    sym (append-nil (history_of c.args.self.now.book))
    ∙ ap (λ (es : List Entry). history_of c.args.self.now.book ++ es) (sym (found-entering c.args.self.now.book c.args.self.now.present.items c.requires.present c.args.caller c.in-Some.place (found c)))

pub returns-clause-present : goal.returns-clause-present
returns-clause-present c =
    subst (ArePresent c.enter.new.self) (sym (c.push_reserved.ensures.items ∙ ap (λ (xs : List OwnPart). xs ++ c.in_ok-own.own ∷ []) c.in_ok-reserve.ensures.items))
    (entered-present c.args.self.now.book c.enter.new.self c.args.self.now.present.items c.in_ok-own.own c.requires.present c.in_ok-own.ensures.entered c.in_ok-own.ensures.appended c.in_ok-own.ensures.stands)

none : (c : goal.After-push_reserved) → position (has_number c.args.caller) c.args.self.now.present.items ≡ None
none c = ap (position (has_number c.args.caller)) (sym c.as_slice.ensures.value) ∙ sym c.place.ensures ∙ c.in_default.is

pub returns-clause-seated : goal.returns-clause-seated
returns-clause-seated c =
    let present = c.args.self.now.present.items in
    let number = ap (λ (o : OwnPart). o.number) c.in_ok-own.ensures.entered ∙ sym (none-next c.args.self.now.book present c.requires.present c.args.caller (none c) c.requires.may) in
    subst (IsSeated c.args.caller _) (sym (c.push_reserved.ensures.items ∙ ap (λ (xs : List OwnPart). xs ++ c.in_ok-own.own ∷ []) c.in_ok-reserve.ensures.items))
    (last_seated c.args.caller _ present c.in_ok-own.own (ap length (c.as_slice-place.ensures.value ∙ c.in_ok-reserve.ensures.items)) number)

pub returns-clause-entered : goal.returns-clause-entered
returns-clause-entered c =
    let entry = entry_of (state_of_book c.args.self.now.book) (next_caller c.args.self.now.book) Enter in
    ap history_of c.in_ok-own.ensures.appended ∙ history-more c.args.self.now.book (entry ∷ [])
    ∙ ap (λ (es : List Entry). history_of c.args.self.now.book ++ es) (sym (none-entering c.args.self.now.book c.args.self.now.present.items c.requires.present c.args.caller (none c) c.requires.may))
