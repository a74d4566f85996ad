mod HandingLemmas
