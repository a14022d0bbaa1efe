-- The unit lines and the group lines, which fit the buffer. Assumes nothing.
use Rattle.std.proofs.Common.{rules, ℕ, ◌+◌, ◌-◌, ◌≤◌, List, [], ◌∷◌, map, ◌≡◌, refl, sym, ◌∙◌, length, take, drop, arith}
use mathlib.Core.List.{flatten}
use Rattle.groups.specs.Inner.Flat.{marks_from, marks_in}
use Rattle.job.specs.Job.{Job}
use Rattle.job.specs.Sound.{SoundJob}
use Rattle.model.proofs.Laws.Lists.{ranges_length}
use Rattle.model.proofs.Laws.Running.{marked_length}
use Rattle.print.specs.Inner.Written.{Room}
use Rattle.print.specs.Laws.Written.{Rest, begin, room_next, next, done, from_start}
use Rattle.member_ranges.specs.Laws.Parts.{part}
use Rattle.writer.specs.Inner.Asked.{job_held}
use Rattle.job_lines.specs.Laws.Course.{accepted_more}
use Rattle.writer.proofs.Laws.Held.{marks_room}
use Rattle.writer.proofs.Laws.Lengths.{text_fits}
use Rattle.job_lines.specs.Laws.Pieces.{text_printed}
use Rattle.job_lines.specs.Texts.{range_lines, member_line, job_text, most_written}
use Rattle.writer.proofs.calls.put_job.Goals as goal
use Rattle.writer.proofs.calls.put_job.Goals.{Start}

module _ {job : Job} (sound : SoundJob job) {buffer : List ℕ} (long : most_written ≤ length buffer) where
  room : Room buffer 0 (job_text job)
  room = record { fits = omega (arith, text_fits job sound) }

  parts : Rest (job_text job) buffer 0
      (flatten (range_lines job.marks job.lows job.highs) ∷ flatten (map member_line job.groups) ∷ [])
      buffer 0
  parts = begin _ (text_printed job) room

module _ (start : Start) where
  abbrev flat : List ℕ
  flat = start.args.flat.now

  abbrev units : ℕ
  units = length start.args.lows.now

  sound : SoundJob (job_held flat start.args.groups start.args.lows.now start.args.highs.now)
  sound = start.requires.sound_job

  -- a mark for each unit
  many : length (marks_in units flat) ≡ units
  many = sym (marked_length sound.built.marked).0

  -- the marks lie in the flat list
  within : marks_from + units ≤ length flat
  within = marks_room units flat sound.some_unit many

  -- those lent are the job's
  lent : take (marks_from + units - marks_from) (drop marks_from flat) ≡ marks_in units flat
  lent = part marks_from units flat

pub slice_bounds-put_range_lines-end : goal.slice_bounds-put_range_lines-end
slice_bounds-put_range_lines-end c = within (goal.at.slice_bounds-put_range_lines-end c).Start

pub put_range_lines-requires : goal.put_range_lines-requires
put_range_lines-requires c =
    let start = (goal.at.put_range_lines-requires c).Start in
    rw (lent start) (record {
      highs_len = (ranges_length (sound start).built.ranges, many start);
      room = room_next (parts (sound start) c.requires.most_written_in_bounds);
    })

pub put_member_lines-requires : goal.put_member_lines-requires
put_member_lines-requires c =
    let start = (goal.at.put_member_lines-requires c).Start in
    let wrote = rw (lent start) at c.put_range_lines.ensures.wrote in
    record {
      holds = c.requires.holds;
      accepted_groups = accepted_more (sound start).built.few_units (sound start).built.groups_sound;
      room = room_next (next (parts (sound start) c.requires.most_written_in_bounds) wrote);
    }

pub returns : goal.returns
unfolding flatten
returns c =
    let start = (goal.at.returns c).Start in
    let long = c.requires.most_written_in_bounds in
    let units-put = next (parts (sound start) long) (rw (lent start) at c.put_range_lines.ensures.wrote) in
    let (counted, holds) = from_start (room (sound start) long) (done refl (next units-put c.put_member_lines.ensures.wrote)) in
    record { value = counted; buffer_after = rw counted (search rules ∙ holds) }
