use Rattle.std.proofs.Common.{Option, [], ℕ, List, ◌++◌, sym, ap, ◌∙◌, subst, rules}
use Rattle.rom_fields.specs.Failures.{Rose}
use Rattle.std.specs.Io.KnownBytes.{Appends}
use Rattle.rom_fields.proofs.Joins.{front_all, appends_join, appends_keep}
use Rattle.rom_fields.specs.Written.{AppendsPrefix}
use Rattle.image_stream.specs.Segments.{image_from, image_of, IsImage, checked}
use Rattle.image_stream.specs.declared.error.StreamError.{StreamError}
use Rattle.image_stream.specs.declared.error.StreamError.TheVariants.{Changed}
use Rattle.image_stream.specs.Outcomes.{IsStreamFault}
use Rattle.image_stream.proofs.Answering.{grew_join, logs_join}
use Rattle.image_stream.proofs.Streams.{image_known, value_of, value_known, front_head, front_image}
use Rattle.image_stream.proofs.Streams.{whole_image, whole_known, size_fault, pass_fault, never}
use Rattle.image_stream.proofs.streaming.stream_through.Goals as goal

pub returns-in-Err : goal.returns-in-Err
returns-in-Err g c = record {
  known = c.measure_all.ensures.known;
  files = c.measure_all.ensures.files;
  names = c.measure_all.ensures.names;
  some = tt;
  sized = tt;
  whole = tt;
  quiet = tt;
  front = search rules;
  fault = size_fault _ (g.L.Segmented.form c.args.layout.now) g.C.Checksum.stored _ _
      (g.W.ByteWrite.output c.args.w.now) c.in-Err.e c.in-Err.ensures.fault;
}

pub returns-in-Err-walk : goal.returns-in-Err-walk
returns-in-Err-walk g c = record {
  known = c.walk.ensures.known ∙ c.measure_all.ensures.known;
  files = c.walk.ensures.files ∙ c.measure_all.ensures.files;
  names = c.walk.ensures.names ∙ c.measure_all.ensures.names;
  some = tt;
  sized = tt;
  whole = tt;
  quiet = tt;
  front = search rules;
  fault = let old = g.W.ByteWrite.output c.args.w.now in
      pass_fault (g.S.Sources.known c.args.sources.now) (g.S.Sources.known c.measure_all.new.sources)
      (g.L.Segmented.form c.args.layout.now) g.C.Checksum.stored
      (g.S.Sources.reads c.args.sources.now) (g.S.Sources.reads c.measure_all.new.sources) _ 0 0 old old
      c.in-Err-walk.e c.measure_all.ensures.known c.in-Ok.ensures.quiet never c.in-Ok.ensures.ok
      c.in-Err-walk.ensures.fault;
}

pub returns-in-Err-write_head : goal.returns-in-Err-write_head
returns-in-Err-write_head g c = record {
  known = c.walk.ensures.known ∙ c.measure_all.ensures.known;
  files = c.walk.ensures.files ∙ c.measure_all.ensures.files;
  names = c.walk.ensures.names ∙ c.measure_all.ensures.names;
  some = tt;
  sized = tt;
  whole = tt;
  quiet = tt;
  front = λ cs is.
      let f = g.L.Segmented.form c.args.layout.now in
      let S = g.C.Checksum.stored in
      let image = image_from cs f.start f.segments f.end in
      let right = value_known _ _ _ _ cs f S c.value-stored.result (c.measure_all.ensures.known ∙ is)
      c.start-first.ensures c.add_head.ensures c.in-Ok-walk.ensures.ok c.value-stored.ensures in
      front_head f.head S c.value-stored.result image right _ _ c.in-Err-write_head.ensures.text;
  fault = search rules;
}

pub returns-in-Err-sent : goal.returns-in-Err-sent
returns-in-Err-sent g c = record {
  known = c.walk-sent.ensures.known ∙ c.walk.ensures.known ∙ c.measure_all.ensures.known;
  files = c.walk-sent.ensures.files ∙ c.walk.ensures.files ∙ c.measure_all.ensures.files;
  names = c.walk-sent.ensures.names ∙ c.walk.ensures.names ∙ c.measure_all.ensures.names;
  some = tt;
  sized = tt;
  whole = tt;
  quiet = tt;
  front = λ cs is.
      let f = g.L.Segmented.form c.args.layout.now in
      let S = g.C.Checksum.stored in
      let image = image_from cs f.start f.segments f.end in
      let right = value_known _ _ _ _ cs f S c.value-stored.result (c.measure_all.ensures.known ∙ is)
      c.start-first.ensures c.add_head.ensures c.in-Ok-walk.ensures.ok c.value-stored.ensures in
      let A : g.row.W.Denot → Type 0 = λ v. AppendsPrefix (g.W.ByteWrite.output c.args.w.now).contents
      (g.W.ByteWrite.output v).contents (checked f.head S image) in
      subst A (search rules) (front_image f.head S c.value-stored.result image right _ _ _
      c.in-Ok-write_head.ensures.text
      (c.in-Err-sent.ensures.front cs (c.walk.ensures.known ∙ c.measure_all.ensures.known ∙ is)));
  fault = let old = g.W.ByteWrite.output c.args.w.now in
      let new = g.W.ByteWrite.output c.walk-sent.new.sink.w.now in
      let known = g.S.Sources.known c.args.sources.now in
      let f = g.L.Segmented.form c.args.layout.now in
      let reads = g.S.Sources.reads c.args.sources.now in
      let F : g.row.W.Denot → Type 0 = λ v. IsStreamFault known f g.C.Checksum.stored reads
      (g.S.Sources.reads c.walk-sent.new.sources) old (g.W.ByteWrite.output v) c.in-Err-sent.e in
      subst F (search rules) (pass_fault known (g.S.Sources.known c.walk.new.sources) f g.C.Checksum.stored reads
      (g.S.Sources.reads c.walk.new.sources) _ (g.W.ByteWrite.output c.write_head.new.w).failures new.failures old new
      c.in-Err-sent.e (c.walk.ensures.known ∙ c.measure_all.ensures.known)
      (c.in-Ok-walk.ensures.quiet.0 ∙ c.in-Ok.ensures.quiet)
      (λ r. let R : ℕ → Type 0 = λ v. Rose v new.failures in subst R c.in-Ok-write_head.ensures.count r)
      c.in-Ok.ensures.ok c.in-Err-sent.ensures.fault);
}

pub returns-in-Err-flush : goal.returns-in-Err-flush
returns-in-Err-flush g c = record {
  known = c.walk-sent.ensures.known ∙ c.walk.ensures.known ∙ c.measure_all.ensures.known;
  files = c.walk-sent.ensures.files ∙ c.walk.ensures.files ∙ c.measure_all.ensures.files;
  names = c.walk-sent.ensures.names ∙ c.walk.ensures.names ∙ c.measure_all.ensures.names;
  some = tt;
  sized = tt;
  whole = tt;
  quiet = tt;
  front = λ cs is.
      let f = g.L.Segmented.form c.args.layout.now in
      let A : g.row.W.Denot → Type 0 = λ v. AppendsPrefix (g.W.ByteWrite.output c.args.w.now).contents
      (g.W.ByteWrite.output v).contents (image_of f g.C.Checksum.stored cs) in
      subst A (search rules) (front_all _ _ _ (whole_known _ _ cs f g.C.Checksum.stored c.value-stored.result _ _ _ _
      (c.measure_all.ensures.known ∙ is) (c.walk.ensures.known ∙ c.measure_all.ensures.known ∙ is)
      c.start-first.ensures c.add_head.ensures c.in-Ok-walk.ensures.ok c.value-stored.ensures
      c.in-Ok-write_head.ensures.text c.in-Ok-sent.ensures.ok c.flush.ensures.bytes));
  fault = search rules;
}

pub returns-in-Err-confirm : goal.returns-in-Err-confirm
returns-in-Err-confirm g c = record {
  known = c.walk-sent.ensures.known ∙ c.walk.ensures.known ∙ c.measure_all.ensures.known;
  files = c.walk-sent.ensures.files ∙ c.walk.ensures.files ∙ c.measure_all.ensures.files;
  names = c.walk-sent.ensures.names ∙ c.walk.ensures.names ∙ c.measure_all.ensures.names;
  some = tt;
  sized = tt;
  whole = tt;
  quiet = tt;
  front = λ cs is.
      let f = g.L.Segmented.form c.args.layout.now in
      let A : g.row.W.Denot → Type 0 = λ v. AppendsPrefix (g.W.ByteWrite.output c.args.w.now).contents
      (g.W.ByteWrite.output v).contents (image_of f g.C.Checksum.stored cs) in
      subst A (search rules) (front_all _ _ _ (whole_known _ _ cs f g.C.Checksum.stored c.value-stored.result _ _ _ _
      (c.measure_all.ensures.known ∙ is) (c.walk.ensures.known ∙ c.measure_all.ensures.known ∙ is)
      c.start-first.ensures c.add_head.ensures c.in-Ok-walk.ensures.ok c.value-stored.ensures
      c.in-Ok-write_head.ensures.text c.in-Ok-sent.ensures.ok c.flush.ensures.bytes));
  fault = let known = g.S.Sources.known c.args.sources.now in
      let f = g.L.Segmented.form c.args.layout.now in
      let one = c.in-Ok-walk.ensures.ok in
      let two = c.in-Ok-sent.ensures.ok in
      let S = g.C.Checksum.stored in
      let err = c.in-Err-confirm.ensures.err in
      let v = value_of _ _ _ (f.head 0) S c.value-stored.result c.start-first.ensures c.add_head.ensures one
      c.value-stored.ensures in
      let again = two.added (f.head 0) (c.add_head.ensures [] c.start-first.ensures) in
      let T : Option (List (List ℕ)) → Type 0 = λ t. IsImage t f.start f.segments f.end two.bytes in
      let E : g.row.W.Denot → StreamError → Type 0 = λ v e. IsStreamFault known f S
      (g.S.Sources.reads c.args.sources.now) (g.S.Sources.reads c.walk-sent.new.sources)
      (g.W.ByteWrite.output c.args.w.now) (g.W.ByteWrite.output v) e in
      let changed : E c.flush.new.self Changed = (
        record {
          rest = two.bytes;
          stands = subst T (c.walk.ensures.known ∙ c.measure_all.ensures.known) two.are.0;
          value = c.value-stored.result;
          differs = err.1 (f.head 0 ++ two.bytes) again;
          written = appends_keep _ _ _ _ (appends_join _ _ _ _ _ c.in-Ok-write_head.ensures.text two.written)
              c.flush.ensures.bytes;
        },
        λ cs is.
            let first = image_known _ cs _ _ _ _ (c.measure_all.ensures.known ∙ is) one.are.0 in
            let second = image_known _ cs _ _ _ _ (c.walk.ensures.known ∙ c.measure_all.ensures.known ∙ is) two.are.0 in
            err.1 (f.head 0 ++ two.bytes) again (v ∙ ap (λ (x : List ℕ). S (f.head 0 ++ x)) (first ∙ sym second)),
      ) in
      let F : g.row.W.Denot → Type 0 = λ v. E v c.in-Err-confirm.e in
      subst F (search rules) (subst (E c.flush.new.self) (sym err.0) changed);
}

pub returns : goal.returns
returns g c = record {
  known = c.walk-sent.ensures.known ∙ c.walk.ensures.known ∙ c.measure_all.ensures.known;
  files = c.walk-sent.ensures.files ∙ c.walk.ensures.files ∙ c.measure_all.ensures.files;
  names = c.walk-sent.ensures.names ∙ c.walk.ensures.names ∙ c.measure_all.ensures.names;
  some = let f = g.L.Segmented.form c.args.layout.now in
      let two = c.in-Ok-sent.ensures.ok in
      let again = two.added (f.head 0) (c.add_head.ensures [] c.start-first.ensures) in
      let T : Option (List (List ℕ)) → Type 0 = λ t. IsImage t f.start f.segments f.end two.bytes in
      let A : g.row.W.Denot → Type 0 = λ v. Appends (g.W.ByteWrite.output c.args.w.now).contents
      (g.W.ByteWrite.output v).contents (checked f.head g.C.Checksum.stored two.bytes) in
      let one = c.in-Ok.ensures.grew in
      let read = c.in-Ok-walk.ensures.ok.are.1 in
      let earlier = grew_join (g.S.Sources.IsLog c.args.sources.now) (g.S.Sources.IsLog c.measure_all.new.sources)
      (g.S.Sources.IsLog c.walk.new.sources) one (read.answers, read.logged) in (
        record {
          rest = two.bytes;
          stands = subst T (c.walk.ensures.known ∙ c.measure_all.ensures.known) two.are.0;
          answers = two.are.1.answers;
          read = two.are.1.are tt;
          written = subst A (search rules) (whole_image f.head g.C.Checksum.stored c.value-stored.result two.bytes
              (c.in-Ok-confirm.ensures.ok (f.head 0 ++ two.bytes) again)
              _ _ _ _ c.in-Ok-write_head.ensures.text two.written c.flush.ensures.bytes);
        },
        (
          earlier.0,
          logs_join (g.S.Sources.IsLog c.args.sources.now) (g.S.Sources.IsLog c.walk.new.sources)
              (g.S.Sources.IsLog c.walk-sent.new.sources) earlier.0 two.are.1.answers earlier.1 two.are.1.logged,
        ),
      );
  sized = search rules;
  whole = λ cs is.
      let f = g.L.Segmented.form c.args.layout.now in
      let A : g.row.W.Denot → Type 0 = λ v. Appends (g.W.ByteWrite.output c.args.w.now).contents
      (g.W.ByteWrite.output v).contents (image_of f g.C.Checksum.stored cs) in
      subst A (search rules) (whole_known _ _ cs f g.C.Checksum.stored c.value-stored.result _ _ _ _
      (c.measure_all.ensures.known ∙ is) (c.walk.ensures.known ∙ c.measure_all.ensures.known ∙ is)
      c.start-first.ensures c.add_head.ensures c.in-Ok-walk.ensures.ok c.value-stored.ensures
      c.in-Ok-write_head.ensures.text c.in-Ok-sent.ensures.ok c.flush.ensures.bytes);
  quiet = search rules;
  front = tt;
  fault = tt;
}
