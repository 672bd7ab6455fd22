use Rattle.demands.proofs.Determined.{refusal, success, make_tables, read, scan, tables, restarts_of, table_source, is_lawful, are_full, part, put, are_same, packet, no_fragments, survey, place, insert, none, has, find, keep, well_kept, is_blank, opens, inspect, whole_flag, receive, receive_in_place, head_length, put_head, build, record_length, take_record, take_next, no_counts, add_count, close_counts, accepted, number, file_name}
use Rattle.demands.proofs.determines.Goals as goal

pub returns-clause-refusal : goal.returns-clause-refusal
returns-clause-refusal c = refusal

pub returns-clause-success : goal.returns-clause-success
returns-clause-success c = success

pub returns-clause-make_tables : goal.returns-clause-make_tables
returns-clause-make_tables c = make_tables

pub returns-clause-read : goal.returns-clause-read
returns-clause-read c = read

pub returns-clause-scan : goal.returns-clause-scan
returns-clause-scan c = scan

pub returns-clause-tables : goal.returns-clause-tables
returns-clause-tables c = tables

pub returns-clause-restarts_of : goal.returns-clause-restarts_of
returns-clause-restarts_of c = restarts_of

pub returns-clause-table_source : goal.returns-clause-table_source
returns-clause-table_source c = table_source

pub returns-clause-is_lawful : goal.returns-clause-is_lawful
returns-clause-is_lawful c = is_lawful

pub returns-clause-are_full : goal.returns-clause-are_full
returns-clause-are_full c = are_full

pub returns-clause-part : goal.returns-clause-part
returns-clause-part c = part

pub returns-clause-put : goal.returns-clause-put
returns-clause-put c = put

pub returns-clause-are_same : goal.returns-clause-are_same
returns-clause-are_same c = are_same

pub returns-clause-packet : goal.returns-clause-packet
returns-clause-packet c = packet

pub returns-clause-no_fragments : goal.returns-clause-no_fragments
returns-clause-no_fragments c = no_fragments

pub returns-clause-survey : goal.returns-clause-survey
returns-clause-survey c = survey

pub returns-clause-place : goal.returns-clause-place
returns-clause-place c = place

pub returns-clause-insert : goal.returns-clause-insert
returns-clause-insert c = insert

pub returns-clause-none : goal.returns-clause-none
returns-clause-none c = none

pub returns-clause-has : goal.returns-clause-has
returns-clause-has c = has

pub returns-clause-find : goal.returns-clause-find
returns-clause-find c = find

pub returns-clause-keep : goal.returns-clause-keep
returns-clause-keep c = keep

pub returns-clause-well_kept : goal.returns-clause-well_kept
returns-clause-well_kept c = well_kept

pub returns-clause-is_blank : goal.returns-clause-is_blank
returns-clause-is_blank c = is_blank

pub returns-clause-opens : goal.returns-clause-opens
returns-clause-opens c = opens

pub returns-clause-inspect : goal.returns-clause-inspect
returns-clause-inspect c = inspect

pub returns-clause-whole_flag : goal.returns-clause-whole_flag
returns-clause-whole_flag c = whole_flag

pub returns-clause-receive : goal.returns-clause-receive
returns-clause-receive c = receive

pub returns-clause-receive_in_place : goal.returns-clause-receive_in_place
returns-clause-receive_in_place c = receive_in_place

pub returns-clause-head_length : goal.returns-clause-head_length
returns-clause-head_length c = head_length

pub returns-clause-put_head : goal.returns-clause-put_head
returns-clause-put_head c = put_head

pub returns-clause-build : goal.returns-clause-build
returns-clause-build c = build

pub returns-clause-record_length : goal.returns-clause-record_length
returns-clause-record_length c = record_length

pub returns-clause-take_record : goal.returns-clause-take_record
returns-clause-take_record c = take_record

pub returns-clause-take_next : goal.returns-clause-take_next
returns-clause-take_next c = take_next

pub returns-clause-no_counts : goal.returns-clause-no_counts
returns-clause-no_counts c = no_counts

pub returns-clause-add_count : goal.returns-clause-add_count
returns-clause-add_count c = add_count

pub returns-clause-close_counts : goal.returns-clause-close_counts
returns-clause-close_counts c = close_counts

pub returns-clause-accepted : goal.returns-clause-accepted
returns-clause-accepted c = accepted

pub returns-clause-number : goal.returns-clause-number
returns-clause-number c = number

pub returns-clause-file_name : goal.returns-clause-file_name
returns-clause-file_name c = file_name
