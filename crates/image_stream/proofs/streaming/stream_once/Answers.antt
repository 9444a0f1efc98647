use Rattle.std.proofs.Common.{Option, [], ℕ, List, ◌++◌, ◌∙◌, subst, rules}
use Rattle.rom_fields.specs.Failures.{Rose}
use Rattle.std.specs.Io.KnownBytes.{Appends}
use Rattle.image_stream.specs.Segments.{IsImage, checked}
use Rattle.image_stream.specs.Outcomes.{IsStreamFault}
use Rattle.image_stream.proofs.Answering.{logs_join}
use Rattle.image_stream.proofs.Images.{rises_end}
use Rattle.image_stream.proofs.Once.{image_once, known_once}
use Rattle.image_stream.proofs.Streams.{size_fault, pass_fault}
use Rattle.image_stream.proofs.streaming.stream_once.Goals as goal

pub rewrite_head-requires-clause-within : goal.rewrite_head-requires-clause-within
rewrite_head-requires-clause-within g c =
    let f = g.L.Segmented.form c.args.layout.now in
    rises_end f.start f.end f.segments c.requires.laid.rises

pub returns-in-Err : goal.returns-in-Err
returns-in-Err g c = record {
  known = c.measure_all.ensures.known;
  files = c.measure_all.ensures.files;
  names = c.measure_all.ensures.names;
  some = tt;
  sized = tt;
  whole = tt;
  quiet = tt;
  fault = size_fault _ (g.L.Segmented.form c.args.layout.now) g.C.Checksum.stored _ _
      (g.W.ByteWrite.output c.args.w.now) c.in-Err.e c.in-Err.ensures.fault;
}

pub returns-in-Err-write_head : goal.returns-in-Err-write_head
returns-in-Err-write_head g c = record {
  known = c.measure_all.ensures.known;
  files = c.measure_all.ensures.files;
  names = c.measure_all.ensures.names;
  some = tt;
  sized = tt;
  whole = tt;
  quiet = tt;
  fault = search rules;
}

pub returns-in-Err-sent : goal.returns-in-Err-sent
returns-in-Err-sent g c = record {
  known = c.walk-sent.ensures.known ∙ c.measure_all.ensures.known;
  files = c.walk-sent.ensures.files ∙ c.measure_all.ensures.files;
  names = c.walk-sent.ensures.names ∙ c.measure_all.ensures.names;
  some = tt;
  sized = tt;
  whole = tt;
  quiet = tt;
  fault = let old = g.W.ByteWrite.output c.args.w.now in
      let new = g.W.ByteWrite.output c.walk-sent.new.sink.w.now in
      let known = g.S.Sources.known c.args.sources.now in
      let f = g.L.Segmented.form c.args.layout.now in
      let reads = g.S.Sources.reads c.args.sources.now in
      let F : g.row.W.Denot → Type 0 = λ v. IsStreamFault known f g.C.Checksum.stored reads
      (g.S.Sources.reads c.walk-sent.new.sources) old (g.W.ByteWrite.output v) c.in-Err-sent.e in
      subst F (search rules) (pass_fault known (g.S.Sources.known c.measure_all.new.sources) f g.C.Checksum.stored reads
      (g.S.Sources.reads c.measure_all.new.sources) _ (g.W.ByteWrite.output c.write_head.new.w).failures new.failures
      old new c.in-Err-sent.e c.measure_all.ensures.known c.in-Ok.ensures.quiet
      (λ r. let R : ℕ → Type 0 = λ v. Rose v new.failures in subst R c.in-Ok-write_head.ensures.count r)
      c.in-Ok.ensures.ok c.in-Err-sent.ensures.fault);
}

pub returns-in-Err-rewrite_head : goal.returns-in-Err-rewrite_head
returns-in-Err-rewrite_head g c = record {
  known = c.walk-sent.ensures.known ∙ c.measure_all.ensures.known;
  files = c.walk-sent.ensures.files ∙ c.measure_all.ensures.files;
  names = c.walk-sent.ensures.names ∙ c.measure_all.ensures.names;
  some = tt;
  sized = tt;
  whole = tt;
  quiet = tt;
  fault = search rules;
}

pub returns-in-Err-flush : goal.returns-in-Err-flush
returns-in-Err-flush g c = record {
  known = c.walk-sent.ensures.known ∙ c.measure_all.ensures.known;
  files = c.walk-sent.ensures.files ∙ c.measure_all.ensures.files;
  names = c.walk-sent.ensures.names ∙ c.measure_all.ensures.names;
  some = tt;
  sized = tt;
  whole = tt;
  quiet = tt;
  fault = search rules;
}

pub returns : goal.returns
returns g c =
    let f = g.L.Segmented.form c.args.layout.now in
    let S = g.C.Checksum.stored in
    let sent = c.in-Ok-sent.ensures.ok in
    let known = g.S.Sources.known c.args.sources.now in
    let old = (g.W.ByteWrite.output c.args.w.now).contents in
    let T : Option (List (List ℕ)) → Type 0 = λ t. IsImage t f.start f.segments f.end sent.bytes in
    let stands : T known = subst T c.measure_all.ensures.known sent.are.0 in
    let right = c.value-stored.ensures (f.head 0 ++ sent.bytes)
    (sent.added (f.head 0) (c.add_head.ensures [] c.start-first.ensures)) in
    let A : g.row.W.Denot → Type 0 = λ v. Appends old (g.W.ByteWrite.output v).contents (checked f.head S sent.bytes) in
    let written : A _ = subst A (search rules) (image_once f S c.value-stored.result known sent.bytes _ _ _ _ _
    c.requires.laid.rises stands right c.write_head.ensures.length c.rewrite_head.ensures.length
    c.in-Ok-write_head.ensures.text sent.written c.in-Ok-rewrite_head.ensures.text c.flush.ensures.bytes) in
    let one = c.in-Ok.ensures.grew in
    record {
      known = c.walk-sent.ensures.known ∙ c.measure_all.ensures.known;
      files = c.walk-sent.ensures.files ∙ c.measure_all.ensures.files;
      names = c.walk-sent.ensures.names ∙ c.measure_all.ensures.names;
      some = (
        record {
          rest = sent.bytes;
          stands = stands;
          answers = sent.are.1.answers;
          read = sent.are.1.are tt;
          written = written;
        },
        (
          one.0,
          logs_join (g.S.Sources.IsLog c.args.sources.now) (g.S.Sources.IsLog c.measure_all.new.sources)
              (g.S.Sources.IsLog c.walk-sent.new.sources) one.0 sent.are.1.answers one.1 sent.are.1.logged,
        ),
      );
      sized = c.in-Ok.ensures.ok;
      whole = λ cs is. known_once f S known cs sent.bytes old _ is stands written;
      quiet = search rules;
      fault = tt;
    }
