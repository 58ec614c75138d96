-- Files, calls and entries may go to other threads, and be shared.
use denote.Struct.Declared.{shape}
use denote.Struct.Field.{u64-field}
use denote.Param.Send.{IsSend, IsSync, sendable, view_send, view_sync, recorded_send, recorded_sync, struct_send, struct_sync}
use Rattle.std.proofs.Crossing.{crosses}
use Rattle.std.proofs.hash.BuildHasherDefault.TheSendSync as build
use Rattle.std.proofs.hash.FoldHasher.TheSendSync as hasher
use Rattle.pc_names.below.indexmap.proofs.columns.Columns.TheSendSync as columns
use Rattle.pc_names.below.indexmap.proofs.index_table.Bucket.TheSendSync as bucket
use Rattle.pc_names.below.indexmap.proofs.index_table.IndexTable.TheSendSync as index_table
use Rattle.pc_names.below.indexmap.proofs.index_table.group.Group.TheSendSync as group
use Rattle.pc_names.below.indexmap.proofs.map.IndexMap.TheSendSync as map
use Rattle.pc_names.below.indexmap.proofs.set.IndexSet.TheSendSync as set
use Rattle.pc_file.below.sqlite_items.proofs.items.Items.TheSendSync as items
use Rattle.pc_file.below.sqlite_items.proofs.boxed.Boxed.TheSendSync as boxed
use Rattle.pc_base.proofs.sequence.Sequence.TheSendSync as sequence
use Rattle.pc_base.specs.contracts.sequence.Sequence as sequence_type
use Rattle.pc_names.proofs.name.Name.TheSendSync as name
use Rattle.pc_names.specs.contracts.name.Name as name_type
use Rattle.pc_file.proofs.catalogue.Catalogue.TheSendSync as catalogue
use Rattle.pc_file.specs.contracts.catalogue.Catalogue as catalogue_type
use Rattle.pc_file.proofs.variable.Variable.TheSendSync as variable
use Rattle.pc_file.specs.contracts.variable.Variable as variable_type
use Rattle.pc_file.proofs.rule.Rule.TheLaws.TheKnot as rule
use Rattle.pc_file.specs.contracts.rule.Rule as rule_type
use Rattle.pc_file.specs.contracts.file.File as file_type
use Rattle.pc_file.specs.contracts.shared_file.SharedFile as shared_type
use Rattle.pc_calls.specs.contracts.call.Call as call_type
use Rattle.pc_calls.specs.contracts.entry.Entry as entry_type
use Rattle.pc_calls.specs.contracts.head.Head as head_type

-- what a file's look-up by names is made of
ruleset tables = (crosses, build.the_send, build.the_sync, hasher.the_send, hasher.the_sync, columns.the_send, columns.the_sync, bucket.the_send, bucket.the_sync, index_table.the_send, index_table.the_sync, group.the_send, group.the_sync, map.the_send, map.the_sync, set.the_send, set.the_sync)

rule_send : IsSend (rule_type.the_field).row
rule_send = rule.send-Rule (search sendable) (search (sequence.the_send, crosses, sendable) depth 30 fits 20000)
    (λ h s. search (s, boxed.the_send, crosses, sendable) depth 30 fits 20000) (λ h s. search (s, items.the_send, crosses, sendable) depth 30 fits 20000)
    (search (sequence.the_send, crosses, sendable) depth 30 fits 20000)

name_send : IsSend name_type.the_row
name_send = search (name.the_send, sendable) depth 30 fits 20000

variable_send : IsSend variable_type.the_row
variable_send = search (variable.the_send, crosses, sendable) depth 30 fits 20000

catalogue_send : IsSend (catalogue_type.the_field).row
catalogue_send = search (catalogue.the_field_send, tables, sendable) depth 30 fits 20000

costs_send : IsSend (sequence_type.the_row name_type.the_row)
costs_send = search (sequence.the_send, name_send, crosses, sendable) depth 30 fits 20000

variables_send : IsSend (sequence_type.the_row variable_type.the_row)
variables_send = search (sequence.the_send, variable_send, crosses, sendable) depth 30 fits 20000

rules_send : IsSend (sequence_type.the_field rule_type.the_row).row
rules_send = search (sequence.the_send, rule_send, crosses, sendable) depth 30 fits 20000

inside_send : IsSend file_type.TheInside.the_row
inside_send = recorded_send _ _ _ (file_type.TheInside.the_type).to_one (struct_send (shape file_type.TheInside.the_type) (costs_send, (variables_send, (rules_send, (catalogue_send, tt)))))

file_send : IsSend file_type.the_row
file_send = view_send _ _ _ _ _ inside_send

rule_sync : IsSync (rule_type.the_field).row
rule_sync = rule.sync-Rule (search sendable) (search (sequence.the_sync, crosses, sendable) depth 30 fits 20000)
    (λ h s. search (s, boxed.the_sync, crosses, sendable) depth 30 fits 20000) (λ h s. search (s, items.the_sync, crosses, sendable) depth 30 fits 20000)
    (search (sequence.the_sync, crosses, sendable) depth 30 fits 20000)

name_sync : IsSync name_type.the_row
name_sync = search (name.the_sync, sendable) depth 30 fits 20000

variable_sync : IsSync variable_type.the_row
variable_sync = search (variable.the_sync, crosses, sendable) depth 30 fits 20000

catalogue_sync : IsSync (catalogue_type.the_field).row
catalogue_sync = search (catalogue.the_field_sync, tables, sendable) depth 30 fits 20000

costs_sync : IsSync (sequence_type.the_row name_type.the_row)
costs_sync = search (sequence.the_sync, name_sync, crosses, sendable) depth 30 fits 20000

variables_sync : IsSync (sequence_type.the_row variable_type.the_row)
variables_sync = search (sequence.the_sync, variable_sync, crosses, sendable) depth 30 fits 20000

rules_sync : IsSync (sequence_type.the_field rule_type.the_row).row
rules_sync = search (sequence.the_sync, rule_sync, crosses, sendable) depth 30 fits 20000

inside_sync : IsSync file_type.TheInside.the_row
inside_sync = recorded_sync _ _ _ (file_type.TheInside.the_type).to_one (struct_sync (shape file_type.TheInside.the_type) (costs_sync, (variables_sync, (rules_sync, (catalogue_sync, tt)))))

file_sync : IsSync file_type.the_row
file_sync = view_sync _ _ _ _ _ inside_sync

pub shared_send : IsSend shared_type.the_row
shared_send = search (file_send, file_sync, crosses, sendable) depth 30 fits 20000

number_send : IsSend u64-field.row
number_send = search sendable

call_send : IsSend (call_type.the_field).row
call_send = search (shared_send, name_send, sendable) depth 60 fits 20000

head_send : IsSend (head_type.the_field).row
head_send = search (name_send, sequence.the_send, crosses, sendable) depth 60 fits 20000

pub entry_send : IsSend entry_type.the_row
entry_send = recorded_send _ _ _ (entry_type.the_type).to_one (struct_send (shape entry_type.the_type) (number_send, (call_send, (head_send, tt))))

pub shared_sync : IsSync shared_type.the_row
shared_sync = search (file_send, file_sync, crosses, sendable) depth 30 fits 20000

number_sync : IsSync u64-field.row
number_sync = search sendable

call_sync : IsSync (call_type.the_field).row
call_sync = search (shared_sync, name_sync, sendable) depth 60 fits 20000

head_sync : IsSync (head_type.the_field).row
head_sync = search (name_sync, sequence.the_sync, crosses, sendable) depth 60 fits 20000

pub entry_sync : IsSync entry_type.the_row
entry_sync = recorded_sync _ _ _ (entry_type.the_type).to_one (struct_sync (shape entry_type.the_type) (number_sync, (call_sync, (head_sync, tt))))
