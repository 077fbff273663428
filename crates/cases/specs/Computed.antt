-- Every definition of octets, checksum, records and format, of Hellos, of the election, of reading attributes, of reading by a rule and of reports, opened at once, so that the tables of this crate compute.
--     computed     a declaration that says `unfolding computed` sees through all of them
-- Assumes nothing.
use Rattle.octets.specs.Octets.{number_at, value, be, put}
use Rattle.checksum.specs.Sum.{words, add, sum_from, sum, checksum_from, holds_from}
use Rattle.records.specs.Joining.{together, same_group, all_zero, group_records, all_group_records, aggregated as record_of, joined}
use Rattle.records.specs.Most.{most}
use Rattle.records.specs.Records.{group_entries, all_group_entries, entries, all_entries}
use Rattle.records.specs.Runs.{of_run, glue, runs}
use Rattle.format.specs.Address.{group_form, group_field, group_octets, source_form, source_field, source_octets}
use Rattle.format.specs.Body.{zero_reserved, asserts_body, pairs_body, plain_body, simple_body, aggregated_body, pair_body}
use Rattle.format.specs.Entry.{has_front, assert_at, assert_entry_octets, allowed_assert, pair_at, pair_entry_octets, allowed_pair, count, whole, entries_at, entries_of, entries_octets}
use Rattle.format.specs.Path.{nowhere, pseudo_header}
use Rattle.format.specs.Family.{may_be_source}
use Rattle.format.specs.Header.{assert_kind, register_kind, kind_of, octet0, octet1, before as summed_before, sums, header, body_of, body, message}
use Rattle.format.specs.Packing.{usual_limit, least_limit, read_limit, size_of as message_size, canonical, first_bad_at, first_bad, asked, taken, pack, written, pack_due, packing, prefers_aggregated, chosen_of, octets_of, took_of, both_written, choice_of, choice}
use Rattle.format.specs.Reading.{room_for, delivered, reading, read_asserts, read_pairs}
use Rattle.format.specs.Record.{each, assert_record, assert_octets, pair_record, pair_octets, positive, group_record, group_record_octets, source_aggregated, rp_aggregated, aggregated_record, aggregated_octets, record_at}
use Rattle.format.specs.Train.{taken_by, message_of, calls, taken_of, messages_of, room_of, train}
use Rattle.format.specs.Unpacking.{unpack_asserts, unpack_pairs}
use Rattle.format.specs.Writing.{into_buffer}
use Rattle.hello.specs.Options.{nothing, type_of, among, named, length_of, is_some, given, hear, number_octets, value_of, against, option_value, option, options, option_octets, options_octets}
use Rattle.hello.specs.Hello.{holdtime_of, hello_of, hello_options, hello_body, read_hello, said_in, hello_message, write_hello}
use Rattle.attributes.specs.Options.{bit_of, size_of, has_bit, present, size_in, sizes, unallocated}
use Rattle.attributes.specs.Attribute.{is_pop_count, has_e, length_agrees, optional, values, attribute}
use Rattle.places.specs.Rules.{by_record, by_field, hand_up, placed, asserts_body_by, pairs_body_by, options_by}
use Rattle.places.specs.Places.{unpack_by, hello_body_by, read_hello_by}
use Rattle.reporting.specs.Judging.{entries_in, judged_as, judged}
use Rattle.reporting.specs.File.{none as no_message, before, length_of as length_in, split, file_of}
use Rattle.reporting.specs.Tallies.{records_by, messages_by, refusals_by, total, totals_of, by_kind, counts_from, tally_of}
use Rattle.reporting.specs.Fraction.{euclid, gcd, lowest, together as both_kinds, packed_totals, mean_of}
use Rattle.reporting.specs.Report.{report_of}
use Rattle.counters.specs.Counting.{sum as counter_sum}
use Rattle.format.specs.Values.{kind_number}
use Rattle.addresses.specs.Addresses.{in_family}
use Rattle.neighbours.specs.Rows.{no_row, is_zero, all_zero as zero_rows, allowed, has, sheet_rows, valid, table_of}
use Rattle.neighbours.specs.Hearing.{asked as asked_of}
use Rattle.neighbours.specs.Election.{all_have, candidate, above, better, best, elect, electing}
use Rattle.format.specs.Outcome
use Rattle.format.specs.Reader

unfoldable pub computed : Unit {0}
unfolding value be put words add sum_from sum checksum_from holds_from together same_group all_zero group_records all_group_records record_of joined most group_entries all_group_entries entries all_entries of_run glue runs group_form group_field group_octets source_form source_field source_octets zero_reserved asserts_body pairs_body plain_body simple_body aggregated_body pair_body nowhere pseudo_header number_at has_front assert_at assert_entry_octets allowed_assert pair_at pair_entry_octets allowed_pair count whole entries_at entries_of entries_octets may_be_source assert_kind register_kind kind_of octet0 octet1 summed_before sums header body_of body message Outcome.◌>>=◌ Outcome.◌>>◌ Outcome.refuse_if usual_limit least_limit read_limit message_size canonical first_bad_at first_bad asked taken pack written pack_due packing prefers_aggregated chosen_of octets_of took_of both_written choice_of choice Reader.continue Reader.◌>>=◌ Reader.◌>>◌ Reader.give Reader.here Reader.octets Reader.number Reader.must Reader.refuse Reader.times Reader.to_end Reader.records Reader.nothing_more Reader.outcome Reader.from room_for delivered reading read_asserts read_pairs each assert_record assert_octets pair_record pair_octets positive group_record group_record_octets source_aggregated rp_aggregated aggregated_record aggregated_octets record_at taken_by message_of calls taken_of messages_of room_of train unpack_asserts unpack_pairs into_buffer nothing type_of among named length_of is_some given hear number_octets value_of against option_value option options option_octets options_octets holdtime_of hello_of hello_options hello_body read_hello said_in hello_message write_hello bit_of size_of has_bit present size_in sizes unallocated is_pop_count has_e length_agrees optional values attribute by_record by_field hand_up placed asserts_body_by pairs_body_by options_by unpack_by hello_body_by read_hello_by entries_in judged_as judged no_message before length_in split file_of records_by messages_by refusals_by total totals_of by_kind counts_from tally_of euclid gcd lowest both_kinds packed_totals mean_of report_of counter_sum kind_number in_family no_row is_zero zero_rows allowed has sheet_rows valid table_of asked_of all_have candidate above better best elect electing
computed = tt
