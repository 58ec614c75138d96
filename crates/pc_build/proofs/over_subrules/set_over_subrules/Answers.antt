use Rattle.std.proofs.Common.{◌<◌, ◌∷◌, [], All, refl, sym, subst, length, get_or}
use Rattle.pc_store.specs.declared.id.Id.{Id}
use Rattle.pc_store.specs.Sets.{domains_of}
use Rattle.pc_file.specs.Rule.{holds}
use Rattle.pc_file.specs.Parts.{members_of}
use Rattle.pc_build.specs.Making.{DenoteEach}
use Rattle.pc_build.proofs.MakingLemmas.{denotes_later}
use Rattle.pc_build.proofs.OverLemmas.{is_there, is_not_there, one_of_there, same_there, table_there, members-Not, members-Implies, one_denotes, each_is_id, and_denotes, or_denotes, at_most_denotes, not_denotes, implies_denotes}
use Rattle.pc_build.proofs.SpelledLemmas.{spelled_is}
use Rattle.pc_build.proofs.over_subrules.set_over_subrules.Goals as goal

-- the id that a place past the end would have
abbrev none : Id
none = record { layer = 0; node = 0 }

pub takes_one_of-requires : goal.takes_one_of-requires
takes_one_of-requires c = is_there c.args.store.now c.args.variables.now c.args.rule.now c.in-Is.variable c.in-Is.value c.requires.domains (spelled_is c.args.variables.now c.args.rule.now c.requires.spelled) c.in-Is.is

pub takes_one_of-requires-in-IsNot : goal.takes_one_of-requires-in-IsNot
takes_one_of-requires-in-IsNot c = is_not_there c.args.store.now c.args.variables.now c.args.rule.now c.in-IsNot.variable c.in-IsNot.value c.requires.domains (spelled_is c.args.variables.now c.args.rule.now c.requires.spelled) c.in-IsNot.is

pub takes_one_of-requires-in-OneOf : goal.takes_one_of-requires-in-OneOf
takes_one_of-requires-in-OneOf c = one_of_there c.args.store.now c.args.variables.now c.args.rule.now c.in-OneOf.variable c.in-OneOf.values c.requires.domains (spelled_is c.args.variables.now c.args.rule.now c.requires.spelled) c.in-OneOf.is

pub not-requires-in-Not : goal.not-requires-in-Not
not-requires-in-Not c =
    let inner = c.in-Not.field-0 in
    (one_denotes c.args.store.now c.args.variables.now (inner ∷ []) c.args.sets.now 0 inner none (subst (λ rs. DenoteEach c.args.store.now c.args.variables.now rs c.args.sets.now) (members-Not c.args.rule.now inner c.in-Not.is) c.requires.sets) refl).is_id

pub all_of-requires : goal.all_of-requires
all_of-requires c = each_is_id c.args.store.now c.args.variables.now (members_of c.args.rule.now) c.args.sets.now c.requires.sets

pub any_of-requires : goal.any_of-requires
any_of-requires c = each_is_id c.args.store.now c.args.variables.now (members_of c.args.rule.now) c.args.sets.now c.requires.sets

pub at_most-requires : goal.at_most-requires
at_most-requires c = each_is_id c.args.store.now c.args.variables.now (members_of c.args.rule.now) c.args.sets.now c.requires.sets

pub not-requires-in-Implies : goal.not-requires-in-Implies
not-requires-in-Implies c =
    let first = c.in-Implies.field-0 in
    let second = c.in-Implies.field-1 in
    (one_denotes c.args.store.now c.args.variables.now (first ∷ second ∷ []) c.args.sets.now 0 first none (subst (λ rs. DenoteEach c.args.store.now c.args.variables.now rs c.args.sets.now) (members-Implies c.args.rule.now first second c.in-Implies.is) c.requires.sets) refl).is_id

pub or-requires-clause-second : goal.or-requires-clause-second
or-requires-clause-second c =
    let first = c.in-Implies.field-0 in
    let second = c.in-Implies.field-1 in
    (denotes_later c.args.store.now c.not-in-Implies.new.store (λ word. holds c.args.variables.now word second) (get_or c.args.sets.now 1 none) c.not-in-Implies.ensures.keeps
    (one_denotes c.args.store.now c.args.variables.now (first ∷ second ∷ []) c.args.sets.now 1 second none (subst (λ rs. DenoteEach c.args.store.now c.args.variables.now rs c.args.sets.now) (members-Implies c.args.rule.now first second c.in-Implies.is) c.requires.sets) refl)).is_id

pub same_names-requires-clause-first : goal.same_names-requires-clause-first
same_names-requires-clause-first c = (same_there c.args.store.now c.args.variables.now c.args.rule.now c.in-Same.variable c.in-Same.other c.requires.domains (spelled_is c.args.variables.now c.args.rule.now c.requires.spelled) c.in-Same.is).0

pub same_names-requires-clause-second : goal.same_names-requires-clause-second
same_names-requires-clause-second c = (same_there c.args.store.now c.args.variables.now c.args.rule.now c.in-Same.variable c.in-Same.other c.requires.domains (spelled_is c.args.variables.now c.args.rule.now c.requires.spelled) c.in-Same.is).1

pub rows_of_table-requires : goal.rows_of_table-requires
rows_of_table-requires c =
    subst (All (λ variable. variable < length (domains_of c.args.store.now))) (sym c.as_slice-in-Table.ensures) (table_there c.args.store.now c.args.variables.now c.args.rule.now c.in-Table.these c.in-Table.rows c.requires.domains (spelled_is c.args.variables.now c.args.rule.now c.requires.spelled) c.in-Table.is)

pub returns-in-Not-clause-set : goal.returns-in-Not-clause-set
returns-in-Not-clause-set c = not_denotes c.args.store.now c.not-in-Not.new.store c.args.variables.now c.args.rule.now c.args.sets.now c.not-in-Not.ensures.keeps c.requires.sets c.in-Not.field-0 none c.not-in-Not.result c.in-Not.is c.not-in-Not.ensures.is_id c.not-in-Not.ensures.set

pub returns-in-And-clause-set : goal.returns-in-And-clause-set
returns-in-And-clause-set c = and_denotes c.args.store.now c.all_of.new.store c.args.variables.now c.args.rule.now c.args.sets.now c.all_of.ensures.keeps c.requires.sets c.in-And.field-0 c.all_of.result c.in-And.is c.all_of.ensures.is_id c.all_of.ensures.set

pub returns-in-Or-clause-set : goal.returns-in-Or-clause-set
returns-in-Or-clause-set c = or_denotes c.args.store.now c.any_of.new.store c.args.variables.now c.args.rule.now c.args.sets.now c.any_of.ensures.keeps c.requires.sets c.in-Or.field-0 c.any_of.result c.in-Or.is c.any_of.ensures.is_id c.any_of.ensures.set

pub returns-in_ok-other-in-Implies-clause-set : goal.returns-in_ok-other-in-Implies-clause-set
returns-in_ok-other-in-Implies-clause-set c =
    implies_denotes c.args.store.now c.not-in-Implies.new.store c.or.new.store c.args.variables.now c.args.rule.now c.in-Implies.field-0 c.in-Implies.field-1 c.args.sets.now none none c.in_ok-other-in-Implies.other c.or.result c.not-in-Implies.ensures.keeps c.or.ensures.keeps c.requires.sets c.in-Implies.is
    c.in_ok-other-in-Implies.ensures.set c.or.ensures.is_id c.or.ensures.set

pub returns-in-AtMost-clause-set : goal.returns-in-AtMost-clause-set
returns-in-AtMost-clause-set c = at_most_denotes c.args.store.now c.at_most.new.store c.args.variables.now c.args.rule.now c.args.sets.now c.at_most.ensures.keeps c.requires.sets c.in-AtMost.most c.in-AtMost.members c.at_most.result c.in-AtMost.is c.at_most.ensures.is_id c.at_most.ensures.set
